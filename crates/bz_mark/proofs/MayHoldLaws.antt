-- Laws of what a word may hold when one mark more comes.
use Rattle.std.proofs.Common.{◌≡◌, ◌≤◌, ◌⊎◌, ℕ, List, ◌∷◌, length, sym, ap, ◌∙◌, inl, inr, arith}
use Rattle.std.proofs.lemmas.Bool.{cases_lt}
use Rattle.bz_mark.specs.declared.marks.Mark.{Mark}
use Rattle.bz_mark.specs.Dates.{since, cached_at}
use Rattle.bz_mark.specs.MayHold.{MayHold}
use Rattle.bz_mark.specs.Laws.{HeldAfterOneMark}
use Rattle.bz_mark.proofs.DateLaws.{cached-before, since-within, since-is, since-rises}

-- a word may hold its cached value
pub may_hold-now : (start : List ℕ) (past : List Mark) (a v : ℕ) → v ≡ cached_at start past (length past) a → MayHold start past a v
may_hold-now start past a v is = record { moment = length past; dated = since-within past a; within = omega arith; value = is }

-- no mark lets a word's durable value date from earlier
pub since-later : (mark : Mark) (past : List Mark) (a : ℕ) → since past a ≤ since (mark ∷ past) a
since-later mark past a = rw (since-is mark past a) (since-rises past mark a (since past a) (since-within past a))

pub held_after_one_mark : HeldAfterOneMark
held_after_one_mark start mark past a v = (after, before)
  where
    after : MayHold start (mark ∷ past) a v → (v ≡ cached_at start (mark ∷ past) (length (mark ∷ past)) a) ⊎ ((h : MayHold start past a v) × (since (mark ∷ past) a ≤ h.moment))
    after h = elim (cases_lt (length past) h.moment) [
      | inl last ↦
          let within : h.moment ≤ length (mark ∷ past) = h.within in
          let now : h.moment ≡ length (mark ∷ past) = omega arith in
          inl (h.value ∙ ap (λ (k : ℕ). cached_at start (mark ∷ past) k a) now)
      | inr earlier ↦ inr (
        record { moment = h.moment; dated = omega (arith, since-later mark past a, h.dated); within = earlier; value = h.value ∙ cached-before start mark past h.moment a earlier },
        h.dated,
      )
    ]

    before : ((v ≡ cached_at start (mark ∷ past) (length (mark ∷ past)) a) ⊎ ((h : MayHold start past a v) × (since (mark ∷ past) a ≤ h.moment))) → MayHold start (mark ∷ past) a v
    before (inl now) = may_hold-now start (mark ∷ past) a v now
    before (inr earlier) = record {
      moment = earlier.0.moment;
      dated = earlier.1;
      within = omega (arith, earlier.0.within);
      value = earlier.0.value ∙ sym (cached-before start mark past earlier.0.moment a earlier.0.within);
    }
