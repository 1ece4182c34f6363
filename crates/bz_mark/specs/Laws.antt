-- What holds of the memory after marks whatever the marks are, for the layers above.
use Rattle.std.specs.Prelude.{◌≡◌, ◌≤◌, ◌<◌, ◌+◌, ◌-◌, ◌%◌, ◌*◌, ◌^◌, ◌⊎◌, ◌↔◌, ℕ, List, [], ◌∷◌, ◌++◌, length, slice_index, Some}
use Rattle.bz_layout.specs.declared.limits.TheConstants.{MAX_WORKERS}
use Rattle.bz_pm.specs.After.{after_cas}
use Rattle.bz_pm.specs.State.{State}
use Rattle.bz_mark.specs.declared.marks.Mark.{Mark}
use Rattle.bz_mark.specs.declared.marks.Mark.TheVariants.{Store, Cas, Ask, Fence, Evict}
use Rattle.bz_mark.specs.Dates.{since, cached_at, durable_word}
use Rattle.bz_mark.specs.Moments.{at_moment, mark_at}
use Rattle.bz_mark.specs.WordsAfter.{state_after, state_after_marks, words_after_marks, KeepsLength, Found, IsTruthful}
use Rattle.bz_mark.specs.MayHold.{MayHold}
use Rattle.bz_mark.specs.Evictions.{AddsEvictions}

-- whatever the marks name, there are as many words as in the start image
abbrev pub LengthsStay : Type 0
LengthsStay = (start : List ℕ) (past : List Mark) → KeepsLength start (words_after_marks start past)

-- one mark more makes of the memory what it makes of that before it
abbrev pub StatesFollow : Type 0
StatesFollow = (start : List ℕ) (past : List Mark) (moment : ℕ) (mark : Mark) → moment < length past → mark_at moment past ≡ Some mark
    → state_after_marks start (at_moment (moment + 1) past) ≡ state_after (state_after_marks start (at_moment moment past)) mark

-- marks that come later leave the memory at a moment
abbrev pub StatesStay : Type 0
StatesStay = (start : List ℕ) (more past : List Mark) (moment : ℕ) → moment ≤ length past
    → state_after_marks start (at_moment moment (more ++ past)) ≡ state_after_marks start (at_moment moment past)

-- a compare-and-swap that tells what stood there is that act of a memory
abbrev pub SwapsAsFound : Type 0
SwapsAsFound = (m : State) (w a old new found : ℕ) → Found m.words (Cas w a old new found) → state_after m (Cas w a old new found) ≡ after_cas m a old new

-- a journal is truthful exactly where each mark found what stood there at its moment
abbrev pub TruthfulAtEachMoment : Type 0
TruthfulAtEachMoment = (start : List ℕ) (past : List Mark)
    → IsTruthful start past ↔ ((moment : ℕ) (mark : Mark) → moment < length past → mark_at moment past ≡ Some mark → Found (words_after_marks start (at_moment moment past)) mark)

-- after a mark a word may hold its cached value, what it might hold before at a moment from which its durable value may still
-- date, and nothing else
abbrev pub HeldAfterOneMark : Type 0
HeldAfterOneMark = (start : List ℕ) (mark : Mark) (past : List Mark) (a v : ℕ)
    → MayHold start (mark ∷ past) a v ↔ ((v ≡ cached_at start (mark ∷ past) (length (mark ∷ past)) a) ⊎ ((h : MayHold start past a v) × (since (mark ∷ past) a ≤ h.moment)))

-- a truthful journal stays truthful when evictions are added
abbrev pub TruthfulWithEvictions : Type 0
TruthfulWithEvictions = (start : List ℕ) (past more : List Mark) → AddsEvictions (length start) past more → IsTruthful start past → IsTruthful start more

-- an image of a memory: whole lines, fewer than 2^32 words, each below 2^64
pub record IsImage (start : List ℕ) : Type 0 where
  pub lines : length start % 8 ≡ 0
  pub size : length start < 2 ^ 32
  pub fit : (a : ℕ) → slice_index start a < 2 ^ 64

-- a mark that a memory of so many words may have: addresses, lines and workers that there are, and words below 2^64
abbrev pub IsOfMemory : ℕ → Mark → Type 0
IsOfMemory words (Store w a v) = (a < words) × (v < 2 ^ 64)
IsOfMemory words (Cas w a old new found) = (a < words) × (new < 2 ^ 64)
IsOfMemory words (Ask w line) = (w ≤ MAX_WORKERS) × (line * 8 < words)
IsOfMemory words (Fence w) = w ≤ MAX_WORKERS
IsOfMemory words (Evict a) = a < words
IsOfMemory words mark = Unit {0}

abbrev pub AreOfMemory : ℕ → List Mark → Type 0
AreOfMemory words [] = Unit {0}
AreOfMemory words (mark ∷ past) = IsOfMemory words mark × AreOfMemory words past

-- the words of the memory after marks are those by moments, where the marks are fewer than the asks that a memory counts
abbrev pub WordsAreByMoments : Type 0
WordsAreByMoments = (start : List ℕ) (past : List Mark) (a : ℕ) → IsImage start → AreOfMemory (length start) past → length past < 2 ^ 64 - 1 → a < length start
    → (slice_index (words_after_marks start past).cached a ≡ cached_at start past (length past) a) × (slice_index (words_after_marks start past).durable a ≡ durable_word start past a)
