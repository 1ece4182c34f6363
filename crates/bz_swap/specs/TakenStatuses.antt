-- A descriptor whose status is not free stays so, in the caches, outside a recovery time.
use Rattle.std.specs.Prelude.{◌≡◌, ◌≢◌, ◌⊎◌, ℕ, ◌<◌, List, length, slice_index}
use Rattle.std.specs.declared.option.Option.{Option}
use Rattle.bz_word.specs.declared.entry.Entry.{Entry}
use Rattle.bz_layout.specs.Addresses.{swap_address}
use Rattle.bz_swap_acts.specs.declared.acted.Act.{Act}
use Rattle.bz_swap_acts.specs.declared.acted.Act.TheVariants.{Store}
use Rattle.bz_swap_cells.specs.Store.{status_word}
use Rattle.bz_swap_machine.specs.declared.done.Done.{Done}
use Rattle.bz_swap_machine.specs.declared.status.SwapStatus.TheVariants.{Free, Undecided}
use Rattle.bz_swap.specs.declared.phase.Phase.{Phase}
use Rattle.bz_swap.specs.Evictions.{IsEviction}
use Rattle.bz_swap.specs.Held.{IsHeld}
use Rattle.bz_swap.specs.Power.{opened, renewed}
use Rattle.bz_swap.specs.Starts.{started, swapping}
use Rattle.bz_swap.specs.Steps.{IsStep}
use Rattle.bz_swap.specs.SwapMemory.{SwapMemory, Doing, Idle, Swapping, doing_of}

-- the status of swap s is not free
abbrev pub IsTaken : SwapMemory → ℕ → Type 0
IsTaken m s = slice_index m.cached (swap_address s) ≢ status_word Free

-- a step makes it so by the store of undecided alone, by the worker of the swap
pub record IsTaking (old : SwapMemory) (w s : ℕ) (made : Act) : Type 0 where
  pub doing : doing_of old w ≡ Swapping s
  pub begun : s < old.taken
  pub act : made ≡ Store (swap_address s) (status_word Undecided)

pub record TakenStatusesStay : Type 0 where
  pub stays : (old new : SwapMemory) (w : ℕ) (made : Act) (done : Done) (told : Option ℕ) (s : ℕ) → IsStep old w made done told new → s < old.swaps → IsTaken old s → IsTaken new s
  pub begins : (old new : SwapMemory) (w : ℕ) (made : Act) (done : Done) (told : Option ℕ) (s : ℕ) → IsStep old w made done told new → s < old.swaps
      → slice_index old.cached (swap_address s) ≡ status_word Free → IsTaken new s → IsTaking old w s made

-- each swap begun is a worker's operation still, or the status of its descriptor is not free
abbrev pub BegunAreTaken : SwapMemory → Type 0
BegunAreTaken m = (s : ℕ) → s < m.taken → ((w : ℕ) × (doing_of m w ≡ Swapping s)) ⊎ IsTaken m s

-- so it is from an opening or a renewal to the next power cut
pub record BegunStayTaken : Type 0 where
  pub opening : (phase : Phase) (start : List ℕ) (swaps workers : ℕ) → BegunAreTaken (opened phase start swaps workers)
  pub renewal : (m : SwapMemory) → BegunAreTaken (renewed m)
  pub step : (old new : SwapMemory) (w : ℕ) (made : Act) (done : Done) (told : Option ℕ) → IsHeld old → IsStep old w made done told new → BegunAreTaken old → BegunAreTaken new
  pub eviction : (old new : SwapMemory) (a : ℕ) (told : Option ℕ) → IsEviction old a told new → BegunAreTaken old → BegunAreTaken new
  pub start : (m : SwapMemory) (w : ℕ) (doing : Doing) → doing_of m w ≡ Idle → BegunAreTaken m → BegunAreTaken (started m w doing)
  pub swap : (m : SwapMemory) (w : ℕ) (entries : List Entry) → w < length m.workers → doing_of m w ≡ Idle → BegunAreTaken m → BegunAreTaken (swapping m w entries)
