-- A queue's journal. The newest mark stands first. A moment is a number of marks of every kind.
use Rattle.std.specs.Prelude.{◌-◌, ◌+◌, ℕ, List, [], ◌∷◌, length, drop, slice_get, Option}
use Rattle.bz_mark.specs.declared.marks.Mark.{Mark}
use Rattle.bz_mark.specs.declared.marks.Mark.TheVariants as mark
use Rattle.bz_ring.specs.declared.marks.QMark.{QMark}
use Rattle.bz_ring.specs.declared.marks.QMark.TheVariants.{Effect, Memory}

-- the words from which a journal goes on, its marks, and how many it may have
pub record QLog : Type 0 where
  pub start : List ℕ
  pub past : List QMark
  pub most : ℕ

abbrev pub with_mark : QLog → QMark → QLog
with_mark log mark = record log { past = mark ∷ log.past }

-- a mark of the memory: no begin, end or effect of a call
abbrev pub IsOfMemory : Mark → Type 0
IsOfMemory (mark.Begin w n call) = ⊥
IsOfMemory (mark.End w n reply at) = ⊥
IsOfMemory (mark.Effect w n) = ⊥
IsOfMemory other = Unit {0}

-- what stands in a queue's mark of the memory is one
abbrev pub IsMark : QMark → Type 0
IsMark (Memory memory) = IsOfMemory memory
IsMark other = Unit {0}

-- what happened to the memory, and nothing of the calls
abbrev pub memory_of : List QMark → List Mark
memory_of [] = []
memory_of (Memory memory ∷ past) = memory ∷ memory_of past
memory_of (other ∷ past) = memory_of past

-- the marks before a moment
abbrev pub at_moment : ℕ → List QMark → List QMark
at_moment moment past = drop (length past - moment) past

-- the mark that comes at a moment, if there is one
abbrev pub mark_at : ℕ → List QMark → Option QMark
mark_at moment past = slice_get past (length past - (moment + 1))

-- each mark, after the marks before it, has P
abbrev pub EachMark : (List QMark → QMark → Type 0) → List QMark → Type 0
EachMark P [] = Unit {0}
EachMark P (mark ∷ past) = P past mark × EachMark P past

-- the marks before each earlier moment have P, but for those before an Effect, which names a change that the words already show
abbrev pub AtEarlierMoments : (List QMark → Type 0) → List QMark → Type 0
AtEarlierMoments P [] = Unit {0}
AtEarlierMoments P (Effect w n ∷ past) = AtEarlierMoments P past
AtEarlierMoments P (mark ∷ past) = P past × AtEarlierMoments P past

-- and those before each moment, the present one among them
abbrev pub AtEachMoment : (List QMark → Type 0) → List QMark → Type 0
AtEachMoment P past = P past × AtEarlierMoments P past
