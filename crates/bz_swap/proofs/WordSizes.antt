-- As many words stand in the caches and in the memory itself after an act.
use Rattle.std.specs.Prelude.{◌≡◌, ◌==◌, if◌then◌else◌, ℕ, Bool, true, false, List, length, slice_index, slice_set}
use Rattle.std.specs.declared.option.Option.{Option}
use Rattle.std.proofs.Common.{arith, refl, sym, subst}
use Rattle.std.proofs.lemmas.List.{length-set}
use Rattle.bz_swap_cells.specs.FromPm.State.{State}
use Rattle.bz_swap_cells.specs.FromPm.Words.{Words, IsMemory}
use Rattle.bz_swap_cells.proofs.FromPm.Fences as memory
use Rattle.bz_swap_acts.specs.Rule.{after_act}
use Rattle.bz_swap_acts.specs.declared.acted.Act.{Act}
use Rattle.bz_swap_acts.specs.declared.acted.Act.TheVariants.{Load, Store, Cas, Ask, Fence}
use Rattle.bz_swap.specs.Evictions.{IsEviction}
use Rattle.bz_swap.specs.Sizes.{SizesStay}
use Rattle.bz_swap.specs.Steps.{MayAct}
use Rattle.bz_swap.specs.SwapMemory.{SwapMemory, memory_words, memory_state}

resized : (m : Words) (cached durable : List ℕ) → IsMemory m → length cached ≡ length m.cached → length durable ≡ length m.durable → IsMemory (record { cached = cached; durable = durable })
resized m cached durable i first second = record { same = omega (arith, i.same, first, second); lines = rw second i.lines; size = rw second i.size }

set-size : (t : Bool) (words : List ℕ) (a v : ℕ) → length (if t then slice_set words a v else words) ≡ length words
set-size true words a v = length-set words a v
set-size false words a v = refl

act-size : (m : SwapMemory) (w : ℕ) (made : Act) → MayAct m w → IsMemory (after_act w (memory_state m) made).words
act-size m w (Load a v) may = may.state.memory
act-size m w (Store a v) may = resized (memory_words m) (slice_set m.cached a v) m.durable may.state.memory (length-set m.cached a v) refl
act-size m w (Cas a before after found) may = resized (memory_words m) _ m.durable may.state.memory (set-size (slice_index m.cached a == before) m.cached a after) refl
act-size m w (Ask line) may = may.state.memory
act-size m w Fence may = (memory.fence (memory_state m) w may.state may.worker).state.memory

eviction-size : (old new : SwapMemory) (a : ℕ) (told : Option ℕ) → IsEviction old a told new → IsMemory (memory_words old) → IsMemory (memory_words new)
eviction-size old new a told h i = subst (λ (m : SwapMemory). IsMemory (memory_words m)) (sym h.is) (resized (memory_words old) old.cached _ i refl (length-set old.durable a (slice_index old.cached a)))

pub sizes_stay : SizesStay
sizes_stay = record {
  opening = λ phase start swaps workers lines size. record { same = refl; lines = lines; size = size };
  step = λ old new w made done step i. subst (λ (m : State). IsMemory m.words) (sym step.act.after) (act-size old w made step.may);
  eviction = eviction-size;
  cut = λ m i. record { same = refl; lines = i.lines; size = i.size };
}
