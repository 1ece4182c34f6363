-- How many asks a memory counts before each moment, since the last cut.
use Rattle.std.proofs.Common.{◌≡◌, ◌<◌, ◌≤◌, ◌+◌, if◌then◌else◌, ℕ, List, [], ◌∷◌, length, refl, sym, ap, ◌∙◌, inl, inr, arith}
use Rattle.std.specs.Prelude.{nat_lt}
use Rattle.std.proofs.lemmas.Bool.{cases_lt}
use Rattle.bz_mark.specs.declared.marks.Mark.{Mark}
use Rattle.bz_mark.specs.declared.marks.Mark.TheVariants.{Ask, Cut}
use Rattle.bz_mark.proofs.DateLaws.{IsNoCut, before_it, after_it}

-- a mark that a memory counts
abbrev pub counts : Mark → ℕ
counts (Ask w line) = 1
counts mark = 0

-- how many it counts up to a moment from the last cut on
abbrev pub counted : List Mark → ℕ → ℕ
counted [] moment = 0
counted (Cut ∷ past) moment = 0
counted (mark ∷ past) moment = if nat_lt (length past) moment then counted past moment + counts mark else counted past moment

-- the moment after the last cut
abbrev pub cut_at : List Mark → ℕ
cut_at [] = 0
cut_at (Cut ∷ past) = length past + 1
cut_at (mark ∷ past) = cut_at past

pub counted-before : (mark : Mark) (past : List Mark) (moment : ℕ) → IsNoCut mark → moment ≤ length past → counted (mark ∷ past) moment ≡ counted past moment
counted-before Cut past moment go h = absurd go
counted-before mark past moment go h = rw (before_it (length past) moment h) refl

counted-after : (mark : Mark) (past : List Mark) (moment : ℕ) → IsNoCut mark → length past < moment → counted (mark ∷ past) moment ≡ counted past moment + counts mark
counted-after Cut past moment go h = absurd go
counted-after mark past moment go h = rw (after_it (length past) moment h) refl

-- after all marks no more are counted
pub counted-beyond : (past : List Mark) (moment : ℕ) → length past ≤ moment → counted past moment ≡ counted past (length past)
counted-beyond [] moment h = refl
counted-beyond (Cut ∷ past) moment h = refl
counted-beyond (mark ∷ past) moment h =
    counted-after mark past moment tt (omega arith)
    ∙ ap (λ (n : ℕ). n + counts mark) (counted-beyond past moment (omega arith) ∙ sym (counted-beyond past (length (mark ∷ past)) (omega arith)))
    ∙ sym (counted-after mark past (length (mark ∷ past)) tt (omega arith))

pub counted-now : (mark : Mark) (past : List Mark) → IsNoCut mark → counted (mark ∷ past) (length (mark ∷ past)) ≡ counted past (length past) + counts mark
counted-now mark past go =
    counted-after mark past (length (mark ∷ past)) go (omega arith) ∙ ap (λ (n : ℕ). n + counts mark) (counted-beyond past (length (mark ∷ past)) (omega arith))

pub counted-newest : (mark : Mark) (past : List Mark) → IsNoCut mark → counted (mark ∷ past) (length past + 1) ≡ counted past (length past) + counts mark
counted-newest mark past go =
    counted-after mark past (length past + 1) go (omega arith) ∙ ap (λ (n : ℕ). n + counts mark) (counted-beyond past (length past + 1) (omega arith))

-- the count never falls
pub counted-rises : (past : List Mark) (x y : ℕ) → x ≤ y → counted past x ≤ counted past y
counted-rises [] x y h = omega arith
counted-rises (Cut ∷ past) x y h = omega arith
counted-rises (mark ∷ past) x y h = elim (cases_lt (length past) x) [
  | inl later ↦ rw (counted-after mark past x tt later, counted-after mark past y tt (omega arith)) (omega (arith, counted-rises past x y h))
  | inr low ↦ elim (cases_lt (length past) y) [
    | inl high ↦ rw (counted-before mark past x tt low, counted-after mark past y tt high) (omega (arith, counted-rises past x y h))
    | inr below ↦ rw (counted-before mark past x tt low, counted-before mark past y tt below) (counted-rises past x y h)
  ]
]

one_or_none : (mark : Mark) → counts mark ≤ 1
one_or_none (Ask w line) = omega arith
one_or_none mark = omega arith

-- and is at most the number of marks
pub counted-few : (past : List Mark) → counted past (length past) ≤ length past
counted-few [] = omega arith
counted-few (Cut ∷ past) = omega arith
counted-few (mark ∷ past) = rw (counted-now mark past tt) (omega (arith, counted-few past, one_or_none mark))
