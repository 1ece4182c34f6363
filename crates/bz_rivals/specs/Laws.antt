-- The laws of rivals.
use Rattle.std.specs.Prelude.{◌≡◌, ◌≢◌, ℕ, ◌+◌, ◌<◌, ◌≤◌, List, length, Option}
use Rattle.bz_word.specs.declared.entry.Entry.{Entry}
use Rattle.bz_swap_acts.specs.declared.acted.Act.{Act}
use Rattle.bz_swap_machine.specs.declared.done.Done.{Done}
use Rattle.bz_swap.specs.declared.phase.Phase.TheVariants.{Recovering}
use Rattle.bz_swap.specs.Evictions.{IsEviction}
use Rattle.bz_swap.specs.SoloRuns.{Turn, IsSoloRun}
use Rattle.bz_swap.specs.Settled.{AreOwned}
use Rattle.bz_swap.specs.Starts.{started, swapping}
use Rattle.bz_swap.specs.Steps.{IsStep}
use Rattle.bz_swap.specs.SwapMemory.{SwapMemory, Doing}
use Rattle.bz_rivals.specs.Notes.{SwapsNothing}
use Rattle.bz_rivals.specs.Rivals.{rivals, foreign}
use Rattle.bz_rivals.specs.Runs.{foreign_in}

-- at most one for each other worker; and as worker 0 does no swap, one fewer than the workers from 1 on
pub record RivalsAreFew : Type 0 where
  pub all : (m : SwapMemory) (w : ℕ) → w < length m.workers → rivals m w + 1 ≤ length m.workers
  pub others : (m : SwapMemory) (w : ℕ) → 0 < w → w < length m.workers → SwapsNothing m 0 → rivals m w + 2 ≤ length m.workers

-- what worker w starts is no rival of its own; a step of w, and an eviction, raise the number not at all, and lower it by one at
-- least where they have a foreign effect
pub record RivalsFall : Type 0 where
  pub start : (m : SwapMemory) (w : ℕ) (doing : Doing) → rivals (started m w doing) w ≡ rivals m w
  pub swap : (m : SwapMemory) (w : ℕ) (entries : List Entry) → rivals (swapping m w entries) w ≡ rivals m w
  pub step : (old new : SwapMemory) (w : ℕ) (made : Act) (done : Done) (told : Option ℕ) → IsStep old w made done told new → rivals new w + foreign old w told ≤ rivals old w
  pub eviction : (old new : SwapMemory) (w a : ℕ) (told : Option ℕ) → old.phase ≢ Recovering → IsEviction old a told new → rivals new w + foreign old w told ≤ rivals old w

-- and where each swap is one worker's at most nothing else changes it
pub record RivalsAreExact : Type 0 where
  pub step : (old new : SwapMemory) (w : ℕ) (made : Act) (done : Done) (told : Option ℕ) → AreOwned old → IsStep old w made done told new → rivals new w + foreign old w told ≡ rivals old w
  pub eviction : (old new : SwapMemory) (w a : ℕ) (told : Option ℕ) → old.phase ≢ Recovering → AreOwned old → IsEviction old a told new → rivals new w + foreign old w told ≡ rivals old w

-- over a run of worker w alone, outside a recovery time
abbrev pub SoloEffectsAreFew : Type 0
SoloEffectsAreFew = (w : ℕ) (old new : SwapMemory) (turns : List Turn) → 0 < w → old.phase ≢ Recovering → (run : IsSoloRun w old turns new) → foreign_in w old new turns run + rivals new w ≤ rivals old w
