-- How many items the list has, when one mark more is read.
use Rattle.std.proofs.Common.{◌≡◌, ◌<◌, ◌≤◌, ℕ, ◌+◌, List, [], ◌∷◌, length, refl, ap, ◌∙◌, arith, Some, None}
use Rattle.std.proofs.lemmas.Grind.{common_steps}
use Rattle.bz_ring.specs.Calls.{Open, open_call, items_after}
use Rattle.bz_ring.specs.Journal.{at_moment, mark_at}
use Rattle.bz_ring.specs.Lists.{apply}
use Rattle.bz_ring.specs.declared.marks.QMark.{QMark}
use Rattle.bz_ring.specs.declared.marks.QMark.TheVariants.{Effect}
use Rattle.bz_qtext.proofs.MomentLaws.{at_moment-next}

-- nothing is read yet
pub count_none : (capacity : ℕ) (past : List QMark) → length (items_after capacity [] (at_moment 0 past)) ≡ 0
count_none capacity past = let start : at_moment 0 past ≡ [] = grind (arith, common_steps) in rw start refl

-- the marks that leave the list
abbrev pub IsNoEffect : QMark → Type 0
IsNoEffect (Effect w n) = ⊥
IsNoEffect mark = Unit {0}

pub no_effect_from : (mark : QMark) → ((w n : ℕ) → mark ≡ Effect w n → ⊥) → IsNoEffect mark
no_effect_from (Effect w n) none = none w n refl
no_effect_from mark none = tt

same_list : (capacity : ℕ) (first : List ℕ) (mark : QMark) (rest : List QMark) → IsNoEffect mark → items_after capacity first (mark ∷ rest) ≡ items_after capacity first rest
same_list capacity first (Effect w n) rest none = absurd none
same_list capacity first mark rest none = refl

pub count_stays : (capacity : ℕ) (first : List ℕ) (past : List QMark) (moment count : ℕ) (mark : QMark) → moment < length past → mark_at moment past ≡ Some mark → IsNoEffect mark
    → length (items_after capacity first (at_moment moment past)) ≡ count → length (items_after capacity first (at_moment (moment + 1) past)) ≡ count
count_stays capacity first past moment count mark lt is none h = ap (λ (marks : List QMark). length (items_after capacity first marks)) (at_moment-next moment mark past is lt) ∙ ap length (same_list capacity first mark (at_moment moment past) none) ∙ h

-- an Effect of no open call
pub count_alone : (capacity : ℕ) (first : List ℕ) (past : List QMark) (moment count w n : ℕ) → moment < length past → mark_at moment past ≡ Some (Effect w n) → open_call w (at_moment moment past) ≡ None
    → length (items_after capacity first (at_moment moment past)) ≡ count → length (items_after capacity first (at_moment (moment + 1) past)) ≡ count
count_alone capacity first past moment count w n lt is none h = rw (at_moment-next moment (Effect w n) past is lt, none) h

-- an Effect of a call that is open
pub count_follows : (capacity : ℕ) (first : List ℕ) (past : List QMark) (moment count w n : ℕ) (opened : Open) → moment < length past → mark_at moment past ≡ Some (Effect w n)
    → open_call w (at_moment moment past) ≡ Some opened → length (apply capacity (items_after capacity first (at_moment moment past)) opened.call).items ≡ count
    → length (items_after capacity first (at_moment (moment + 1) past)) ≡ count
count_follows capacity first past moment count w n opened lt is is_open h = rw (at_moment-next moment (Effect w n) past is lt, is_open) h
