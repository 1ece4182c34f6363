-- The calls of `Access` are the events of the atomic swap memory.
use Rattle.std.specs.Prelude.{◌≡◌, ◌≢◌, ℕ, ◌<◌, true, List, Option}
use Rattle.bz_word.specs.declared.entry.Entry.{Entry}
use Rattle.bz_swap_acts.specs.declared.acted.Act.{Act}
use Rattle.bz_swap_cells.specs.Store.{IsOutside}
use Rattle.bz_swap_machine.specs.declared.done.Done.{Done}
use Rattle.bz_swap.specs.declared.phase.Phase.TheVariants.{Recovering}
use Rattle.bz_swap.specs.Atomic.{value_of, Quiet, Happens, told_event, IsAtomicStep, IsRecoveryStep}
use Rattle.bz_swap.specs.Evictions.{IsEviction}
use Rattle.bz_swap.specs.Held.{IsHeld}
use Rattle.bz_swap.specs.Power.{MayRenew, after_cut, renewed}
use Rattle.bz_swap.specs.Starts.{MaySwap, started, swapping}
use Rattle.bz_swap.specs.Steps.{IsStep, IsRawStep}
use Rattle.bz_swap.specs.SwapMemory.{SwapMemory, Doing, is_named, doing_of}

-- each call keeps the value of every address, but for what its event changes
abbrev pub KeepsValues : SwapMemory → SwapMemory → Type 0
KeepsValues old new = (a : ℕ) → IsOutside old.swaps a → value_of new a ≡ value_of old a

pub record AccessIsAtomic : Type 0 where
  pub step : (old new : SwapMemory) (w : ℕ) (made : Act) (done : Done) (told : Option ℕ) → old.phase ≢ Recovering → IsHeld old → IsHeld new → IsStep old w made done told new → IsAtomicStep old w (doing_of old w) done told new
  pub recovery : (old new : SwapMemory) (w : ℕ) (made : Act) (done : Done) (told : Option ℕ) → IsRawStep old w made done told new → IsRecoveryStep old w made told new
  pub eviction : (old new : SwapMemory) (a : ℕ) (told : Option ℕ) → old.phase ≢ Recovering → IsHeld old → IsHeld new → IsEviction old a told new → Happens old (told_event told Quiet) new
  pub start : (m : SwapMemory) (w : ℕ) (doing : Doing) → m.phase ≢ Recovering → 0 < w → KeepsValues m (started m w doing)
  pub swap : (m : SwapMemory) (w : ℕ) (entries : List Entry) → IsHeld m → MaySwap m w entries → KeepsValues m (swapping m w entries)
  -- a power cut keeps the values of named words, and leaves what was durable of private ones; recovery begins
  pub cut : (m : SwapMemory) (a : ℕ) → is_named m a ≡ true → value_of (after_cut m) a ≡ value_of m a
  -- recovery keeps what its stores and flushes of words keep; a renewal, which ends it, keeps every value
  pub renewal : (m : SwapMemory) → MayRenew m → m.phase ≡ Recovering → KeepsValues m (renewed m)
