-- A worked run: a helper that sleeps with a tag in hand while the swap succeeds and its target returns to the
-- expected value.
use Rattle.std.specs.Prelude.{◌≡◌, ℕ, ◌==◌, List, [], ◌∷◌, ◌++◌, replicate, Some, None}
use Rattle.std.specs.declared.option.Option.{Option}
use Rattle.bz_swap_machine.specs.declared.place.Place.TheVariants.{Idle, Help}
use Rattle.bz_swap_machine.specs.declared.place.HelpStep.TheVariants.{InstallPointer}
use Rattle.bz_swap_machine.specs.Machine.{Entries}
use Rattle.bz_swap_machine.specs.Content.{content}
use Rattle.bz_swap_machine.specs.State.{State, Event, StartSwap, StartRead, Act, power_on, happens}
use Rattle.bz_swap_machine.specs.Promise.{since, effect_at}
use Rattle.bz_swap_machine.specs.Examples.{zeros, one_entry}

-- back from 7 to 0 at the same address
abbrev pub way_back : Entries
way_back = record { count = 1; target = λ i. 100; expected = λ i. 7; value = λ i. 0; index = λ a. 0 }

-- worker 1 puts its tag for swap 0; worker 2 reads, meets the tag, learns the swap and sees it undecided
abbrev pub asleep : List Event
asleep = (StartSwap 1 one_entry (λ a. a == 100) ∷ replicate 9 (Act 1)) ++ (StartRead 2 100 ∷ replicate 8 (Act 2))

-- worker 1 completes swap 0 and makes swap 1, the way back
abbrev pub meanwhile : List Event
meanwhile = replicate 12 (Act 1) ++ (StartSwap 1 way_back (λ a. a == 100) ∷ replicate 21 (Act 1))

-- one more effect, if there is one
abbrev with_effect : Option ℕ → List ℕ → List ℕ
with_effect None ss = ss
with_effect (Some s) ss = s ∷ ss

-- the swaps that take effect in a run, in their order
abbrev pub effects_in : State → List Event → List ℕ
effects_in x [] = []
effects_in x (v ∷ vs) = with_effect (effect_at x v) (effects_in (happens x v) vs)

-- worker 2 wakes and goes on to the end of its read
abbrev pub whole : List Event
whole = asleep ++ meanwhile ++ replicate 30 (Act 2)

-- each swap takes effect once, and the sleeper does no harm
pub record SleeperIsHarmless : Type 0 where
  pub sleeps : ((since zeros asleep).local 2).place ≡ Help (InstallPointer 0 1 0)
  pub returned : content (since zeros (asleep ++ meanwhile)).entries (since zeros (asleep ++ meanwhile)).memory 100 ≡ 0
  pub effects : effects_in (power_on zeros) whole ≡ 0 ∷ 1 ∷ []
  pub ended : ((since zeros whole).local 2).place ≡ Idle
  pub held : content (since zeros whole).entries (since zeros whole).memory 100 ≡ 0
