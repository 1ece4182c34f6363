-- A swap memory has a durable word for each cached one, in whole lines, whatever happens.
use Rattle.std.specs.Prelude.{◌≡◌, ℕ, ◌%◌, ◌^◌, ◌<◌, List, length}
use Rattle.std.specs.declared.option.Option.{Option}
use Rattle.bz_swap_cells.specs.FromPm.Words.{IsMemory}
use Rattle.bz_swap_acts.specs.declared.acted.Act.{Act}
use Rattle.bz_swap_machine.specs.declared.done.Done.{Done}
use Rattle.bz_swap.specs.declared.phase.Phase.{Phase}
use Rattle.bz_swap.specs.Evictions.{IsEviction}
use Rattle.bz_swap.specs.Power.{after_cut, opened}
use Rattle.bz_swap.specs.Steps.{IsOneAct}
use Rattle.bz_swap.specs.SwapMemory.{SwapMemory, memory_words}

-- starts and renewals leave the words as they are
pub record SizesStay : Type 0 where
  pub opening : (phase : Phase) (start : List ℕ) (swaps workers : ℕ) → length start % 8 ≡ 0 → length start < 2 ^ 32 → IsMemory (memory_words (opened phase start swaps workers))
  pub step : (old new : SwapMemory) (w : ℕ) (made : Act) (done : Done) → IsOneAct old w made done new → IsMemory (memory_words old) → IsMemory (memory_words new)
  pub eviction : (old new : SwapMemory) (a : ℕ) (told : Option ℕ) → IsEviction old a told new → IsMemory (memory_words old) → IsMemory (memory_words new)
  pub cut : (m : SwapMemory) → IsMemory (memory_words m) → IsMemory (memory_words (after_cut m))
