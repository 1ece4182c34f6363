-- A worked run: a swap of one word, alone.
use Rattle.std.specs.Prelude.{◌≡◌, ℕ, ◌==◌, true, false, List, [], ◌∷◌, ◌++◌, replicate, Some, None}
use Rattle.bz_word.specs.declared.kind.WordKind.TheVariants.{Value}
use Rattle.bz_swap_machine.specs.declared.status.SwapStatus.TheVariants.{Free}
use Rattle.bz_swap_machine.specs.declared.done.Done.TheVariants.{Swapped}
use Rattle.bz_swap_machine.specs.Machine.{Entries, Memory}
use Rattle.bz_swap_machine.specs.Content.{content}
use Rattle.bz_swap_machine.specs.Pending.{no_asks}
use Rattle.bz_swap_machine.specs.State.{State, Event, StartSwap, Act, IsRenewable, AllMayHappen, power_on, stepped}
use Rattle.bz_swap_machine.specs.Promise.{since, effect_at}

-- a memory whose words are 0, and whose descriptors are free
abbrev pub zeros : Memory
zeros = record {
  cached = λ a. Value 0;
  durable = λ a. Value 0;
  status = λ s. Free;
  durable_status = λ s. Free;
  words = λ s k. 0;
  durable_words = λ s k. 0;
  now = 0;
  pending = λ a. no_asks;
  status_pending = λ s. no_asks;
  words_pending = λ s k. no_asks;
  next_tag = λ w. 0;
  missed = λ s. false;
  taken = 0;
  owner = λ s. 0;
  named = λ a. false;
  published = λ s. false;
  answer = λ s. None;
}

-- from 0 to 7 at one address
abbrev pub one_entry : Entries
one_entry = record { count = 1; target = λ i. 100; expected = λ i. 0; value = λ i. 7; index = λ a. 0 }

abbrev pub begun : List Event
begun = StartSwap 1 one_entry (λ a. a == 100) ∷ []

-- after this many acts
abbrev pub run : ℕ → State
run acts = since zeros (begun ++ replicate acts (Act 1))

-- the swap is answered by its 21st act, and takes effect at the 16th, the fence of its status
pub record WorkedSoloSwap : Type 0 where
  pub renewable : IsRenewable zeros
  pub may : AllMayHappen (power_on zeros) begun
  pub before : content (run 15).entries (run 15).memory 100 ≡ 0
  pub effect : effect_at (run 15) (Act 1) ≡ Some 0
  pub after : content (run 16).entries (run 16).memory 100 ≡ 7
  pub answer : (stepped (run 20) 1).done ≡ Swapped true
  pub word : (run 21).memory.cached 100 ≡ Value 7
