-- Rivals, worked out: five workers over three descriptors.
use Rattle.std.specs.Prelude.{◌≡◌, ℕ, ◌-◌, false, List, [], ◌∷◌, ◌++◌, replicate, None, Some}
use Rattle.bz_layout.specs.declared.sizes.TheConstants.{SUPERBLOCK_WORDS, SWAP_WORDS}
use Rattle.bz_swap_machine.specs.declared.status.SwapStatus.{SwapStatus}
use Rattle.bz_swap_machine.specs.declared.status.SwapStatus.TheVariants.{Undecided, Decided}
use Rattle.bz_swap_machine.specs.declared.status.Verdict.TheVariants.{Succeeded, Failed}
use Rattle.bz_swap_cells.specs.Store.{status_word}
use Rattle.bz_swap.specs.declared.phase.Phase.TheVariants.{Running}
use Rattle.bz_swap.specs.SwapMemory.{SwapMemory, Working, Doing, Idle, Reading, Swapping}
use Rattle.bz_rivals.specs.Rivals.{rivals, foreign}

-- a descriptor of this status; the superblock, and three such
abbrev pub descriptor : SwapStatus → List ℕ
descriptor status = status_word status ∷ replicate (SWAP_WORDS - 1) 0

abbrev pub words_with : SwapStatus → SwapStatus → SwapStatus → List ℕ
words_with a b c = replicate SUPERBLOCK_WORDS 0 ++ descriptor a ++ descriptor b ++ descriptor c

abbrev pub at_work : Doing → Working
at_work doing = record { doing = doing; flush_next = false }

-- workers 1 to 3 have a swap each, and worker 4 reads; the statuses are in the memory itself
abbrev pub memory_with : SwapStatus → SwapStatus → SwapStatus → SwapMemory
memory_with a b c = record {
  cached = words_with a b c;
  durable = words_with a b c;
  past = record { count = 0; since = []; asks = [] };
  swaps = 3;
  phase = Running;
  begun = [] ∷ [] ∷ [] ∷ [];
  missed = replicate 3 false;
  taken = 3;
  steps = 0;
  workers = at_work Idle ∷ at_work (Swapping 0) ∷ at_work (Swapping 1) ∷ at_work (Swapping 2) ∷ at_work (Reading 70) ∷ [];
  runner = 4;
  left = 0;
}

-- undecided, succeeded and undecided
abbrev pub before : SwapMemory
before = memory_with Undecided (Decided Succeeded) Undecided

-- the third one has succeeded too
abbrev pub after : SwapMemory
after = memory_with Undecided (Decided Succeeded) (Decided Succeeded)

-- the first one has failed besides, and worker 1 has not been answered
abbrev pub failed : SwapMemory
failed = memory_with (Decided Failed) (Decided Succeeded) (Decided Succeeded)

pub record RivalsAreTold : Type 0 where
  -- the reader has two, the worker whose swap has had its effect as well, and the others have one another
  pub reader : rivals before 4 ≡ 2
  pub done : rivals before 2 ≡ 2
  pub first : rivals before 1 ≡ 1
  pub third : rivals before 3 ≡ 1
  -- after the effect of the third swap there is one fewer, for each but its own worker
  pub reader_after : rivals after 4 ≡ 1
  pub first_after : rivals after 1 ≡ 0
  pub third_after : rivals after 3 ≡ 1
  -- a swap that has failed counts until it is answered
  pub reader_failed : rivals failed 4 ≡ 1
  -- the effect is foreign to all but its own worker
  pub for_reader : foreign before 4 (Some 2) ≡ 1
  pub for_first : foreign before 1 (Some 2) ≡ 1
  pub own : foreign before 3 (Some 2) ≡ 0
  pub none : foreign before 4 None ≡ 0
