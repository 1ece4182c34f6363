-- What a swap memory keeps besides, so that worker 0 is no rival, and a swap begins without a note of a miss.
use Rattle.std.specs.Prelude.{◌≡◌, ◌≢◌, ℕ, ◌<◌, ◌≤◌, false, List, length, Option}
use Rattle.bz_word.specs.declared.entry.Entry.{Entry}
use Rattle.bz_swap_acts.specs.declared.acted.Act.{Act}
use Rattle.bz_swap_machine.specs.declared.done.Done.{Done}
use Rattle.bz_swap.specs.declared.phase.Phase.{Phase}
use Rattle.bz_swap.specs.Evictions.{IsEviction}
use Rattle.bz_swap.specs.Power.{MayRenew, after_cut, opened, renewed}
use Rattle.bz_swap.specs.Starts.{started, swapping}
use Rattle.bz_swap.specs.Steps.{IsStep, IsRawStep, IsOneAct}
use Rattle.bz_swap.specs.SwapMemory.{SwapMemory, Doing, Swapping, is_missed, doing_of}

-- a worker does no swap
abbrev pub SwapsNothing : SwapMemory → ℕ → Type 0
SwapsNothing m w = (s : ℕ) → doing_of m w ≢ Swapping s

-- so it is of worker 0 from an opening on: it starts no swap
pub record ZeroSwapsNothing : Type 0 where
  pub opening : (phase : Phase) (start : List ℕ) (swaps workers : ℕ) → SwapsNothing (opened phase start swaps workers) 0
  pub act : (old new : SwapMemory) (w : ℕ) (made : Act) (done : Done) → IsOneAct old w made done new → SwapsNothing old 0 → SwapsNothing new 0
  pub eviction : (old new : SwapMemory) (a : ℕ) (told : Option ℕ) → IsEviction old a told new → SwapsNothing old 0 → SwapsNothing new 0
  pub start : (m : SwapMemory) (w : ℕ) (doing : Doing) → ((s : ℕ) → doing ≢ Swapping s) → SwapsNothing m 0 → SwapsNothing (started m w doing) 0
  pub swap : (m : SwapMemory) (w : ℕ) (entries : List Entry) → 0 < w → SwapsNothing m 0 → SwapsNothing (swapping m w entries) 0
  pub cut : (m : SwapMemory) → SwapsNothing (after_cut m) 0
  pub renewal : (m : SwapMemory) → MayRenew m → SwapsNothing (renewed m) 0

-- outside a recovery time as many swaps were begun as descriptors are taken, and none is noted as missed that was not begun
pub record AreNoted (m : SwapMemory) : Type 0 where
  pub begun : length m.begun ≡ m.taken
  pub missed : (s : ℕ) → m.taken ≤ s → is_missed m s ≡ false

-- so it is from an opening or a renewal to the next power cut
pub record NotesAreOfBegun : Type 0 where
  pub opening : (phase : Phase) (start : List ℕ) (swaps workers : ℕ) → AreNoted (opened phase start swaps workers)
  pub renewal : (m : SwapMemory) → AreNoted (renewed m)
  pub step : (old new : SwapMemory) (w : ℕ) (made : Act) (done : Done) (told : Option ℕ) → IsStep old w made done told new → AreNoted old → AreNoted new
  pub recovery : (old new : SwapMemory) (w : ℕ) (made : Act) (done : Done) (told : Option ℕ) → IsRawStep old w made done told new → AreNoted old → AreNoted new
  pub eviction : (old new : SwapMemory) (a : ℕ) (told : Option ℕ) → IsEviction old a told new → AreNoted old → AreNoted new
  pub start : (m : SwapMemory) (w : ℕ) (doing : Doing) → AreNoted m → AreNoted (started m w doing)
  pub swap : (m : SwapMemory) (w : ℕ) (entries : List Entry) → AreNoted m → AreNoted (swapping m w entries)
