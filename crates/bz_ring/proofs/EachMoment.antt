-- The moments of a journal by their numbers.
use Rattle.std.proofs.Common.{◌≡◌, ◌≤◌, ◌<◌, inl, inr, ℕ, ◌+◌, ◌-◌, List, [], ◌∷◌, length, refl, sym, ap, ◌∙◌, subst, arith, Some}
use Rattle.std.proofs.lemmas.Bool.{cases_lt}
use Rattle.std.proofs.lemmas.Grind.{common_steps}
use Rattle.bz_ring.specs.declared.marks.QMark.{QMark}
use Rattle.bz_ring.specs.declared.marks.QMark.TheVariants.{Begin, End, Effect, Memory}
use Rattle.bz_ring.specs.Journal.{at_moment, mark_at, AtEarlierMoments, AtEachMoment}
use Rattle.bz_ring.specs.Moments.{IsInner, EachMomentIsMeant}
use Rattle.bz_ring.specs.Sound.{Decodes}

pub at_moment-now : (past : List QMark) → at_moment (length past) past ≡ past
at_moment-now past = grind (arith, common_steps)

pub at_moment-earlier : (moment : ℕ) (mark : QMark) (past : List QMark) → moment ≤ length past → at_moment moment (mark ∷ past) ≡ at_moment moment past
at_moment-earlier moment mark past h = grind (arith, common_steps)

pub mark_at-newest : (mark : QMark) (past : List QMark) → mark_at (length past) (mark ∷ past) ≡ Some mark
mark_at-newest mark past = let z : length (mark ∷ past) - (length past + 1) ≡ 0 = omega arith in rw z refl

pub mark_at-earlier : (moment : ℕ) (mark : QMark) (past : List QMark) → moment < length past → mark_at moment (mark ∷ past) ≡ mark_at moment past
mark_at-earlier moment mark past h = grind (arith, common_steps)

-- P of the marks before each moment but the present one that is not inner
abbrev Meant : (List QMark → Type 0) → List QMark → Type 0
Meant P past = (moment : ℕ) → moment < length past → (IsInner moment past → ⊥) → P (at_moment moment past)

-- an earlier inner moment is one of the marks before the newest
inner-earlier : (moment : ℕ) (mark : QMark) (past : List QMark) → moment < length past → IsInner moment past → IsInner moment (mark ∷ past)
inner-earlier moment mark past within inner = (omega arith, (inner.1.0, inner.1.1, mark_at-earlier moment mark past within ∙ inner.1.2))

inner-before : (moment : ℕ) (mark : QMark) (past : List QMark) → moment < length past → IsInner moment (mark ∷ past) → IsInner moment past
inner-before moment mark past within inner = (omega arith, (inner.1.0, inner.1.1, sym (mark_at-earlier moment mark past within) ∙ inner.1.2))

-- where the newest mark is an Effect the moment before it is inner
meant-effect : (P : List QMark → Type 0) (w n : ℕ) (past : List QMark) → Meant P past → Meant P (Effect w n ∷ past)
meant-effect P w n past meant moment within outer = elim (cases_lt moment (length past)) [
  | inl before ↦ subst P (sym (at_moment-earlier moment (Effect w n) past (omega arith))) (meant moment before (λ inner. outer (inner-earlier moment (Effect w n) past before inner)))
  | inr last ↦
      let now : moment ≡ length past = omega arith in
      absurd (outer (omega arith, (w, n, ap (λ (k : ℕ). mark_at k (Effect w n ∷ past)) now ∙ mark_at-newest (Effect w n) past)))
]

meant-other : (P : List QMark → Type 0) (mark : QMark) (past : List QMark) → P past → Meant P past → Meant P (mark ∷ past)
meant-other P mark past here meant moment within outer = elim (cases_lt moment (length past)) [
  | inl before ↦ subst P (sym (at_moment-earlier moment mark past (omega arith))) (meant moment before (λ inner. outer (inner-earlier moment mark past before inner)))
  | inr last ↦
      let now : moment ≡ length past = omega arith in
      subst P (sym (ap (λ (k : ℕ). at_moment k (mark ∷ past)) now ∙ (at_moment-earlier (length past) mark past (omega arith) ∙ at_moment-now past))) here
]

earlier-meant : (P : List QMark → Type 0) (past : List QMark) → AtEarlierMoments P past → Meant P past
earlier-meant P [] all = λ moment within outer. absurd (omega arith)
earlier-meant P (Effect w n ∷ past) all = meant-effect P w n past (earlier-meant P past all)
earlier-meant P (Begin w n call ∷ past) all = meant-other P (Begin w n call) past all.0 (earlier-meant P past all.1)
earlier-meant P (End w n reply at ∷ past) all = meant-other P (End w n reply at) past all.0 (earlier-meant P past all.1)
earlier-meant P (Memory memory ∷ past) all = meant-other P (Memory memory) past all.0 (earlier-meant P past all.1)

-- and back
meant-rest : (P : List QMark → Type 0) (mark : QMark) (past : List QMark) → Meant P (mark ∷ past) → Meant P past
meant-rest P mark past meant moment within outer =
    subst P (at_moment-earlier moment mark past (omega arith)) (meant moment (omega arith) (λ inner. outer (inner-before moment mark past within inner)))

meant-newest : (P : List QMark → Type 0) (mark : QMark) (past : List QMark) → ((w n : ℕ) → mark ≡ Effect w n → ⊥) → Meant P (mark ∷ past) → P past
meant-newest P mark past no_effect meant =
    subst P (at_moment-earlier (length past) mark past (omega arith) ∙ at_moment-now past)
    (meant (length past) (omega arith) (λ inner. no_effect inner.1.0 inner.1.1 (let same : Some mark ≡ Some (Effect inner.1.0 inner.1.1) = sym (mark_at-newest mark past) ∙ inner.1.2 in cc)))

meant-earlier : (P : List QMark → Type 0) (past : List QMark) → Meant P past → AtEarlierMoments P past
meant-earlier P [] meant = tt
meant-earlier P (Effect w n ∷ past) meant = meant-earlier P past (meant-rest P (Effect w n) past meant)
meant-earlier P (Begin w n call ∷ past) meant = (meant-newest P (Begin w n call) past (λ v m same. cc) meant, meant-earlier P past (meant-rest P (Begin w n call) past meant))
meant-earlier P (End w n reply at ∷ past) meant = (meant-newest P (End w n reply at) past (λ v m same. cc) meant, meant-earlier P past (meant-rest P (End w n reply at) past meant))
meant-earlier P (Memory memory ∷ past) meant = (meant-newest P (Memory memory) past (λ v m same. cc) meant, meant-earlier P past (meant-rest P (Memory memory) past meant))

to-moments : (P : List QMark → Type 0) (past : List QMark) → AtEachMoment P past → (moment : ℕ) → moment ≤ length past → (IsInner moment past → ⊥) → P (at_moment moment past)
to-moments P past all moment within outer = elim (cases_lt moment (length past)) [
  | inl before ↦ earlier-meant P past all.1 moment before outer
  | inr last ↦ let now : moment ≡ length past = omega arith in subst P (sym (ap (λ (k : ℕ). at_moment k past) now ∙ at_moment-now past)) all.0
]

pub each_moment_is_meant : EachMomentIsMeant
each_moment_is_meant r start past = (
  to-moments (Decodes r start) past,
  λ each. (
    subst (Decodes r start) (at_moment-now past) (each (length past) (omega arith) (λ inner. absurd (omega (arith, inner.0)))),
    meant-earlier (Decodes r start) past (λ moment within outer. each moment (omega arith) outer),
  ),
)
