-- Each moment of a journal, by its number: which moments are inner, and that soundness speaks of all others.
use Rattle.std.specs.Prelude.{◌≡◌, ◌↔◌, ◌≤◌, ℕ, ◌+◌, List, length, Some}
use Rattle.bz_ring.specs.declared.marks.QMark.{QMark}
use Rattle.bz_ring.specs.declared.marks.QMark.TheVariants.{Effect}
use Rattle.bz_ring.specs.declared.ring.Ring.{Ring}
use Rattle.bz_ring.specs.Journal.{at_moment, mark_at, AtEachMoment}
use Rattle.bz_ring.specs.Sound.{Decodes}

-- an inner moment: the next mark is an Effect, which names a change that the words already show
abbrev pub IsInner : ℕ → List QMark → Type 0
IsInner moment past = (moment + 1 ≤ length past) × ((w : ℕ) × (n : ℕ) × (mark_at moment past ≡ Some (Effect w n)))

-- soundness speaks of the durable words at each moment that is not inner, whichever its number
abbrev pub EachMomentIsMeant : Type 0
EachMomentIsMeant = (r : Ring) (start : List ℕ) (past : List QMark)
    → AtEachMoment (Decodes r start) past ↔ ((moment : ℕ) → moment ≤ length past → (IsInner moment past → ⊥) → Decodes r start (at_moment moment past))
