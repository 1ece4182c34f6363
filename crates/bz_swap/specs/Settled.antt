-- A swap that was begun and that no worker does any more is settled: it has had its effect or never will.
use Rattle.std.specs.Prelude.{◌≡◌, ◌≢◌, ℕ, ◌<◌, Bool, true, false, List, Some}
use Rattle.std.specs.declared.option.Option.{Option}
use Rattle.bz_word.specs.declared.entry.Entry.{Entry}
use Rattle.bz_layout.specs.Addresses.{swap_address}
use Rattle.bz_swap_cells.specs.FromPm.Words.{IsMemory}
use Rattle.bz_swap_acts.specs.declared.acted.Act.{Act}
use Rattle.bz_swap_acts.specs.declared.acted.Act.TheVariants.{Load, Store, Cas, Ask, Fence}
use Rattle.bz_swap_cells.specs.Store.{status_of, status_at, status_word, word_pending}
use Rattle.bz_swap_machine.specs.declared.done.Done.{Done}
use Rattle.bz_swap_machine.specs.declared.done.Done.TheVariants.{Swapped}
use Rattle.bz_swap_machine.specs.declared.status.SwapStatus.TheVariants.{Free}
use Rattle.bz_swap_machine.specs.Machine.{is_succeeded}
use Rattle.bz_swap_machine.specs.Pending.{Saved}
use Rattle.bz_swap.specs.declared.phase.Phase.{Phase}
use Rattle.bz_swap.specs.declared.phase.Phase.TheVariants.{Running, Recovering}
use Rattle.bz_swap.specs.Evictions.{IsEviction}
use Rattle.bz_swap.specs.Power.{MayRenew, after_cut, opened, renewed}
use Rattle.bz_swap.specs.Starts.{started, swapping}
use Rattle.bz_swap.specs.Steps.{IsStep, IsRawStep}
use Rattle.bz_swap.specs.SwapMemory.{SwapMemory, Doing, Idle, Swapping, memory_words, has_effect, doing_of}

-- swap s was begun since the last renewal, and no worker is doing it: it was answered, or the power was cut since
pub record IsSettled (m : SwapMemory) (s : ℕ) : Type 0 where
  pub begun : s < m.taken
  pub undone : (w : ℕ) → doing_of m w ≢ Swapping s

-- it is settled still, and has had its effect exactly where it had
pub record StaysSettled (old new : SwapMemory) (s : ℕ) : Type 0 where
  pub settled : IsSettled new s
  pub effect : has_effect new s ≡ has_effect old s

-- so it is from the answer, or from the power cut, to the next act of a recovery
pub record SettledStay : Type 0 where
  pub step : (old new : SwapMemory) (w : ℕ) (made : Act) (done : Done) (told : Option ℕ) (s : ℕ) → IsStep old w made done told new → IsSettled old s → StaysSettled old new s
  pub eviction : (old new : SwapMemory) (a : ℕ) (told : Option ℕ) (s : ℕ) → old.phase ≢ Recovering → IsEviction old a told new → IsSettled old s → StaysSettled old new s
  pub start : (m : SwapMemory) (w : ℕ) (doing : Doing) (s : ℕ) → doing ≢ Swapping s → IsSettled m s → StaysSettled m (started m w doing) s
  pub swap : (m : SwapMemory) (w : ℕ) (entries : List Entry) (s : ℕ) → IsSettled m s → StaysSettled m (swapping m w entries) s
  pub cut : (m : SwapMemory) (s : ℕ) → s < m.taken → StaysSettled m (after_cut m) s

-- an effect stays, of a swap that a worker is doing too; where it was there, none is told again
pub record EffectsStay : Type 0 where
  pub step : (old new : SwapMemory) (w : ℕ) (made : Act) (done : Done) (told : Option ℕ) (s : ℕ) → IsStep old w made done told new → has_effect old s ≡ true → (has_effect new s ≡ true) × (told ≢ Some s)
  pub eviction : (old new : SwapMemory) (a : ℕ) (told : Option ℕ) (s : ℕ) → old.phase ≢ Recovering → IsEviction old a told new → has_effect old s ≡ true → (has_effect new s ≡ true) × (told ≢ Some s)

-- in a recovery time: swap s is settled without effect, and no success stands in the caches, or was asked for, that could
-- become durable
pub record IsDropped (m : SwapMemory) (s : ℕ) : Type 0 where
  pub settled : IsSettled m s
  pub effect : has_effect m s ≡ false
  pub cached : is_succeeded (status_at m.swaps m.cached s) ≡ false
  pub asked : (w : ℕ) (q : Saved ℕ) → s < m.swaps → (word_pending m.past (swap_address s)).asked w ≡ Some q → is_succeeded (status_of q.value) ≡ false

-- what an act writes into a status is free
abbrev pub FreesStatuses : ℕ → Act → Type 0
FreesStatuses swaps (Load a v) = Unit {0}
FreesStatuses swaps (Store a v) = (s : ℕ) → s < swaps → a ≡ swap_address s → v ≡ status_word Free
FreesStatuses swaps (Cas a before after found) = (s : ℕ) → s < swaps → a ≡ swap_address s → after ≡ status_word Free
FreesStatuses swaps (Ask line) = Unit {0}
FreesStatuses swaps Fence = Unit {0}

-- a swap without effect at a power cut has none up to the next renewal, where a recovery writes free into statuses alone
pub record DroppedStay : Type 0 where
  pub cut : (m : SwapMemory) (s : ℕ) → s < m.taken → has_effect m s ≡ false → IsDropped (after_cut m) s
  pub recovery : (old new : SwapMemory) (w : ℕ) (made : Act) (done : Done) (told : Option ℕ) (s : ℕ) → IsMemory (memory_words old) → IsRawStep old w made done told new → FreesStatuses old.swaps made
      → IsDropped old s → IsDropped new s
  pub eviction : (old new : SwapMemory) (a : ℕ) (told : Option ℕ) (s : ℕ) → old.phase ≡ Recovering → IsEviction old a told new → IsDropped old s → IsDropped new s
  pub start : (m : SwapMemory) (w : ℕ) (doing : Doing) (s : ℕ) → doing ≢ Swapping s → IsDropped m s → IsDropped (started m w doing) s

-- a swap is one worker's operation at most, and was begun since the last renewal; unless the memory is running, worker 0
-- alone does something
pub record AreOwned (m : SwapMemory) : Type 0 where
  pub begun : (w s : ℕ) → doing_of m w ≡ Swapping s → s < m.taken
  pub one : (v w s : ℕ) → doing_of m v ≡ Swapping s → doing_of m w ≡ Swapping s → v ≡ w
  pub alone : m.phase ≢ Running → (w : ℕ) → 0 < w → doing_of m w ≡ Idle

-- so it is from an opening on; and a swap that is answered is settled, with its effect exactly where the answer is true
pub record OwnedStay : Type 0 where
  pub opening : (phase : Phase) (start : List ℕ) (swaps workers : ℕ) → AreOwned (opened phase start swaps workers)
  pub step : (old new : SwapMemory) (w : ℕ) (made : Act) (done : Done) (told : Option ℕ) → IsStep old w made done told new → AreOwned old → AreOwned new
  pub recovery : (old new : SwapMemory) (w : ℕ) (made : Act) (done : Done) (told : Option ℕ) → IsRawStep old w made done told new → AreOwned old → AreOwned new
  pub eviction : (old new : SwapMemory) (a : ℕ) (told : Option ℕ) → IsEviction old a told new → AreOwned old → AreOwned new
  pub start : (m : SwapMemory) (w : ℕ) (doing : Doing) → ((s : ℕ) → doing ≢ Swapping s) → (w ≡ 0 → m.phase ≢ Running) → AreOwned m → AreOwned (started m w doing)
  pub swap : (m : SwapMemory) (w : ℕ) (entries : List Entry) → 0 < w → AreOwned m → AreOwned (swapping m w entries)
  pub cut : (m : SwapMemory) → AreOwned (after_cut m)
  pub renewal : (m : SwapMemory) → MayRenew m → AreOwned (renewed m)
  pub answer : (old new : SwapMemory) (w s : ℕ) (made : Act) (told : Option ℕ) (won : Bool) → IsStep old w made (Swapped won) told new → doing_of old w ≡ Swapping s → AreOwned old
      → IsSettled new s × (has_effect new s ≡ won)
