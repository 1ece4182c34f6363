-- A memory after marks: the words, and what the memory keeps of the past. The newest mark stands first.
use Rattle.std.specs.Prelude.{◌≡◌, ◌==◌, if◌then◌else◌, ℕ, List, [], ◌∷◌, length, slice_get, slice_set, Some}
use Rattle.bz_layout.specs.declared.limits.TheConstants.{MAX_WORKERS}
use Rattle.bz_pm.specs.Words.{Words}
use Rattle.bz_pm.specs.State.{State}
use Rattle.bz_pm.specs.After.{opened, after_store, after_ask, after_fence, after_eviction, after_power_cut}
use Rattle.bz_mark.specs.declared.marks.Mark.{Mark}
use Rattle.bz_mark.specs.declared.marks.Mark.TheVariants.{Load, Store, Cas, Ask, Fence, Evict, Cut}

-- the memory after a mark: what the act leaves, and the same memory where the mark is no act that changes something.
-- A compare-and-swap changes the word where it found the expected value.
abbrev pub state_after : State → Mark → State
state_after m (Store w a v) = after_store m a v
state_after m (Cas w a old new found) = record m { words = record { cached = if found == old then slice_set m.words.cached a new else m.words.cached; durable = m.words.durable } }
state_after m (Ask w line) = after_ask m w line
state_after m (Fence w) = after_fence m w
state_after m (Evict a) = after_eviction m a
state_after m Cut = after_power_cut m
state_after m mark = m

-- the memory after all marks: cached and durable words begin as the start image
abbrev pub state_after_marks : List ℕ → List Mark → State
state_after_marks start [] = opened start MAX_WORKERS
state_after_marks start (mark ∷ past) = state_after (state_after_marks start past) mark

-- its words
abbrev pub words_after_marks : List ℕ → List Mark → Words
words_after_marks start past = (state_after_marks start past).words

-- as many cached and durable words as the start image has
pub record KeepsLength (start : List ℕ) (words : Words) : Type 0 where
  pub cached : length words.cached ≡ length start
  pub durable : length words.durable ≡ length start

-- a load or a compare-and-swap found the cached word of its address, which is one of the memory
abbrev pub Found : Words → Mark → Type 0
Found words (Load w a v) = slice_get words.cached a ≡ Some v
Found words (Cas w a old new found) = slice_get words.cached a ≡ Some found
Found words mark = Unit {0}

-- each mark found what the marks before it had left
abbrev pub IsTruthful : List ℕ → List Mark → Type 0
IsTruthful start [] = Unit {0}
IsTruthful start (mark ∷ past) = Found (words_after_marks start past) mark × IsTruthful start past
