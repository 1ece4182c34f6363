-- A settled word stays settled: no act but a store at it unsettles it.
use Rattle.std.specs.Prelude.{◌≡◌, ◌≢◌, ℕ, ◌/◌, ◌≤◌, true, List, slice_index, Some, get_or, []}
use Rattle.std.specs.declared.option.Option.{Option}
use Rattle.bz_swap_acts.specs.declared.acted.Act.{Act}
use Rattle.bz_swap_acts.specs.declared.acted.Act.TheVariants.{Ask, Fence}
use Rattle.bz_swap_cells.specs.Store.{word_pending}
use Rattle.bz_swap_machine.specs.Pending.{Saved}
use Rattle.bz_swap_machine.specs.declared.done.Done.{Done}
use Rattle.bz_swap.specs.declared.phase.Phase.{Phase}
use Rattle.bz_swap.specs.Evictions.{IsEviction}
use Rattle.bz_swap.specs.Power.{opened, renewed}
use Rattle.bz_swap.specs.Steps.{IsOneAct, IsStep}
use Rattle.bz_swap.specs.SwapMemory.{SwapMemory, is_settled_at}

-- worker w has asked for the line of a word, and its fence settles the word: what it saves, and what anybody saved then or
-- later, is the word as it stands in the caches, and so is the durable word if it dates from then or later
pub record IsAwaited (m : SwapMemory) (w a : ℕ) : Type 0 where
  pub saved : Saved ℕ
  pub asked : (word_pending m.past a).asked w ≡ Some saved
  pub value : saved.value ≡ slice_index m.cached a
  pub durable : saved.moment ≤ slice_index m.past.since a → slice_index m.durable a ≡ slice_index m.cached a
  pub others : (v : ℕ) (q : Saved ℕ) → (word_pending m.past a).asked v ≡ Some q → saved.moment ≤ q.moment → q.value ≡ slice_index m.cached a

pub record SettledWordsStay : Type 0 where
  -- every word of an opened memory is settled, and of a renewed one, where nobody waits for a fence, each that is durable as it
  -- stands
  pub opening : (phase : Phase) (start : List ℕ) (swaps workers a : ℕ) → is_settled_at (opened phase start swaps workers) a ≡ true
  pub renewal : (m : SwapMemory) (a : ℕ) → ((w : ℕ) → get_or m.past.asks w [] ≡ []) → slice_index m.cached a ≡ slice_index m.durable a → is_settled_at (renewed m) a ≡ true
  -- a step leaves it so where it leaves the word in the caches, and so does an eviction
  pub step : (old new : SwapMemory) (w : ℕ) (made : Act) (done : Done) (told : Option ℕ) (a : ℕ) → IsStep old w made done told new → slice_index new.cached a ≡ slice_index old.cached a
      → is_settled_at old a ≡ true → is_settled_at new a ≡ true
  pub eviction : (old new : SwapMemory) (e : ℕ) (told : Option ℕ) (a : ℕ) → IsEviction old e told new → is_settled_at old a ≡ true → is_settled_at new a ≡ true
  -- the words of a line that a worker has asked for are awaited
  pub asked : (old new : SwapMemory) (w line : ℕ) (done : Done) (a : ℕ) → IsOneAct old w (Ask line) done new → a / 8 ≡ line → IsAwaited new w a
  -- they stay so where another worker's act leaves the word in the caches, and so does an eviction
  pub awaited : (old new : SwapMemory) (v w : ℕ) (made : Act) (done : Done) (a : ℕ) → IsOneAct old v made done new → v ≢ w → slice_index new.cached a ≡ slice_index old.cached a
      → IsAwaited old w a → IsAwaited new w a
  pub evicted : (old new : SwapMemory) (e : ℕ) (told : Option ℕ) (w a : ℕ) → IsEviction old e told new → IsAwaited old w a → IsAwaited new w a
  -- and the worker's fence settles them
  pub fenced : (old new : SwapMemory) (w : ℕ) (done : Done) (a : ℕ) → IsOneAct old w Fence done new → IsAwaited old w a → is_settled_at new a ≡ true
