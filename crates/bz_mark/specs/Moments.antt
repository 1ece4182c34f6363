-- Moments of a journal. A moment is a number of marks, from none to all of them. The newest mark stands first.
use Rattle.std.specs.Prelude.{◌≡◌, ◌≤◌, ℕ, ◌-◌, ◌+◌, List, length, drop, slice_get, Some, Option}
use Rattle.bz_mark.specs.declared.marks.Mark.{Mark}
use Rattle.bz_mark.specs.declared.marks.Mark.TheVariants.{Effect}

-- the marks before a moment
abbrev pub at_moment : ℕ → List Mark → List Mark
at_moment moment past = drop (length past - moment) past

-- the mark that comes at a moment, if there is one
abbrev pub mark_at : ℕ → List Mark → Option Mark
mark_at moment past = slice_get past (length past - (moment + 1))

-- an inner moment: the next mark is an Effect, which names a change that the words already show
abbrev pub IsInner : ℕ → List Mark → Type 0
IsInner moment past = (moment + 1 ≤ length past) × ((w : ℕ) × (n : ℕ) × (mark_at moment past ≡ Some (Effect w n)))

-- the marks before each moment that is not inner have P
abbrev pub AtEachMoment : (List Mark → Type 0) → List Mark → Type 0
AtEachMoment P past = (moment : ℕ) → moment ≤ length past → (IsInner moment past → ⊥) → P (at_moment moment past)
