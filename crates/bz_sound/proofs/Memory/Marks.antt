-- What is said of each mark holds of the mark at a moment, and what is said of each moment when marks are added.
use Rattle.std.proofs.Common.{zero, suc, drop, ◌-◌, ◌≡◌, ◌≤◌, ◌<◌, ◌+◌, ℕ, List, [], ◌∷◌, length, sym, ap, ◌∙◌, subst, inl, inr, arith}
use Rattle.std.specs.Prelude.{Some}
use Rattle.std.proofs.lemmas.Bool.{cases_lt}
use Rattle.bz_mark.specs.Moments.{at_moment, mark_at, IsInner, AtEachMoment}
use Rattle.bz_mark.proofs.MomentLaws.{at_moment-now, at_moment-earlier, at_moment-before, mark_at-earlier}
use Rattle.bz_mark.proofs.WordLaws.{newest-mark_at}
use Rattle.bz_mark.specs.declared.marks.Mark.{Mark}
use Rattle.bz_sound.specs.Memory.Moments.{EachMark}

-- the mark at a moment, after the marks before it, has what each mark has
pub each-at : (P : List Mark → Mark → Type 0) (past : List Mark) (moment : ℕ) (mark : Mark) → EachMark P past → moment < length past → mark_at moment past ≡ Some mark
    → P (at_moment moment past) mark
each-at P [] moment mark each h is = absurd (omega arith)
each-at P (newest ∷ past) moment mark each h is = elim (cases_lt moment (length past)) [
  | inl earlier ↦ subst (λ (marks : List Mark). P marks mark) (sym (at_moment-earlier moment newest past (omega arith)))
      (each-at P past moment mark each.1 earlier (sym (mark_at-earlier moment newest past earlier) ∙ is))
  | inr last ↦
      let now : moment ≡ length past = omega arith in
      let same : newest ≡ mark = newest-mark_at newest mark past moment last h is in
      subst (λ (marks : List Mark). P marks mark) (sym (ap (λ (k : ℕ). at_moment k (newest ∷ past)) now ∙ at_moment-before newest past))
      (subst (P past) same each.0)
]

each-drop : (P : List Mark → Mark → Type 0) (count : ℕ) (past : List Mark) → EachMark P past → EachMark P (drop count past)
each-drop P zero past each = each
each-drop P (suc count) [] each = each
each-drop P (suc count) (mark ∷ past) each = each-drop P count past each.1

-- and so have the marks before a moment
pub each-before : (P : List Mark → Mark → Type 0) (moment : ℕ) (past : List Mark) → EachMark P past → EachMark P (at_moment moment past)
each-before P moment past each = each-drop P (length past - moment) past each

-- an inner moment stays inner
pub inner-later : (moment : ℕ) (mark : Mark) (past : List Mark) → IsInner moment past → IsInner moment (mark ∷ past)
inner-later moment mark past (within, (w, n, is)) = (omega arith, (w, n, mark_at-earlier moment mark past (omega arith) ∙ is))

-- the last moment is not inner, so what holds of each moment holds of the marks so far
pub holds-now : (P : List Mark → Type 0) (past : List Mark) → AtEachMoment P past → P past
holds-now P past each = subst P (at_moment-now past) (each (length past) (omega arith) (λ inner. absurd (omega (arith, inner.0))))

-- what holds of each earlier moment still does
pub holds-earlier : (P : List Mark → Type 0) (mark : Mark) (past : List Mark) (moment : ℕ) → AtEachMoment P past → moment ≤ length past → (IsInner moment (mark ∷ past) → ⊥)
    → P (at_moment moment (mark ∷ past))
holds-earlier P mark past moment each h outer = subst P (sym (at_moment-earlier moment mark past h)) (each moment h (λ inner. outer (inner-later moment mark past inner)))

-- the last moment of a longer journal
pub holds-last : (P : List Mark → Type 0) (past : List Mark) (moment : ℕ) → moment ≡ length past → P past → P (at_moment moment past)
holds-last P past moment now here = subst P (sym (ap (λ (k : ℕ). at_moment k past) now ∙ at_moment-now past)) here

-- one mark more, after which it holds
pub each-with : (P : List Mark → Type 0) (mark : Mark) (past : List Mark) → AtEachMoment P past → P (mark ∷ past) → AtEachMoment P (mark ∷ past)
each-with P mark past each here = λ moment h outer. elim (cases_lt (length past) moment) [
  | inl last ↦ holds-last P (mark ∷ past) moment (omega arith) here
  | inr earlier ↦ holds-earlier P mark past moment each earlier outer
]

-- two marks more, where the moment between is inner
pub each-with_two : (P : List Mark → Type 0) (next mark : Mark) (past : List Mark) → AtEachMoment P past → IsInner (length past + 1) (next ∷ mark ∷ past) → P (next ∷ mark ∷ past)
    → AtEachMoment P (next ∷ mark ∷ past)
each-with_two P next mark past each between here = λ moment h outer. elim (cases_lt (length past) moment) [
  | inl late ↦ elim (cases_lt (length past + 1) moment) [
    | inl last ↦ holds-last P (next ∷ mark ∷ past) moment (omega arith) here
    | inr middle ↦ let now : length past + 1 ≡ moment = omega arith in absurd (outer (subst (λ (k : ℕ). IsInner k (next ∷ mark ∷ past)) now between))
  ]
  | inr earlier ↦ subst P (sym (at_moment-earlier moment next (mark ∷ past) (omega arith)))
      (holds-earlier P mark past moment each earlier (λ inner. outer (inner-later moment next (mark ∷ past) inner)))
]
