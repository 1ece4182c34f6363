-- The words of the descriptors after their statuses stay plain.
use Rattle.std.specs.Prelude.{◌≡◌, ℕ, ◌^◌, ◌<◌, List, slice_index, Some}
use Rattle.std.specs.declared.option.Option.{Option}
use Rattle.bz_word.specs.declared.entry.Entry.{Entry}
use Rattle.bz_swap_cells.specs.FromPm.Words.{IsMemory}
use Rattle.bz_swap_acts.specs.declared.acted.Act.{Act}
use Rattle.bz_swap_acts.specs.declared.acted.Act.TheVariants.{Load, Store, Cas, Ask, Fence}
use Rattle.bz_swap_cells.specs.Store.{field_address, field_count, word_pending}
use Rattle.bz_swap_machine.specs.Pending.{Saved}
use Rattle.bz_swap_machine.specs.declared.done.Done.{Done}
use Rattle.bz_swap.specs.declared.phase.Phase.{Phase}
use Rattle.bz_swap.specs.Evictions.{IsEviction}
use Rattle.bz_swap.specs.Power.{after_cut, opened, renewed}
use Rattle.bz_swap.specs.Starts.{started, swapping}
use Rattle.bz_swap.specs.Steps.{IsStep, IsRawStep}
use Rattle.bz_swap.specs.SwapMemory.{SwapMemory, Doing, memory_words}

-- each of these words has no bit from 61 on
abbrev pub ArePlainFields : ℕ → List ℕ → Type 0
ArePlainFields swaps words = (s k : ℕ) → s < swaps → k < field_count → slice_index words (field_address s k) < 2 ^ 61

-- in the caches, in the memory itself, and as a worker asked for them
pub record HavePlainFields (m : SwapMemory) : Type 0 where
  pub cached : ArePlainFields m.swaps m.cached
  pub durable : ArePlainFields m.swaps m.durable
  pub asked : (s k w : ℕ) (q : Saved ℕ) → s < m.swaps → k < field_count → (word_pending m.past (field_address s k)).asked w ≡ Some q → q.value < 2 ^ 61

-- what an act writes is plain
abbrev pub WritesPlain : Act → Type 0
WritesPlain (Load a v) = Unit {0}
WritesPlain (Store a v) = v < 2 ^ 61
WritesPlain (Cas a before after found) = after < 2 ^ 61
WritesPlain (Ask line) = Unit {0}
WritesPlain Fence = Unit {0}

-- from an opening on, whatever happens, where a recovery writes plain words
pub record PlainFieldsStay : Type 0 where
  pub opening : (phase : Phase) (start : List ℕ) (swaps workers : ℕ) → ArePlainFields swaps start → HavePlainFields (opened phase start swaps workers)
  pub step : (old new : SwapMemory) (w : ℕ) (made : Act) (done : Done) (told : Option ℕ) → IsMemory (memory_words old) → IsStep old w made done told new → HavePlainFields old → HavePlainFields new
  pub recovery : (old new : SwapMemory) (w : ℕ) (made : Act) (done : Done) (told : Option ℕ) → IsMemory (memory_words old) → IsRawStep old w made done told new → WritesPlain made
      → HavePlainFields old → HavePlainFields new
  pub eviction : (old new : SwapMemory) (a : ℕ) (told : Option ℕ) → IsEviction old a told new → HavePlainFields old → HavePlainFields new
  pub start : (m : SwapMemory) (w : ℕ) (doing : Doing) → HavePlainFields m → HavePlainFields (started m w doing)
  pub swap : (m : SwapMemory) (w : ℕ) (entries : List Entry) → HavePlainFields m → HavePlainFields (swapping m w entries)
  pub cut : (m : SwapMemory) → HavePlainFields m → HavePlainFields (after_cut m)
  pub renewal : (m : SwapMemory) → HavePlainFields m → HavePlainFields (renewed m)
