-- What a power cut, power on and the end of recovery leave as it was.
use Rattle.std.proofs.Common.{◌≡◌, ◌<◌, ℕ, List, ◌∷◌, length, refl, sym, ap, ◌∙◌, inl, inr, arith, Some, None}
use Rattle.std.proofs.lemmas.Bool.{cases_lt}
use Rattle.bz_call.specs.declared.replies.Reply.{Reply}
use Rattle.bz_mark.specs.Moments.{at_moment, mark_at}
use Rattle.bz_mark.proofs.MomentLaws.{at_moment-now, at_moment-earlier, at_moment-before, mark_at-earlier, mark_at-newest}
use Rattle.bz_mark.proofs.WordLaws.{newest-mark_at}
use Rattle.bz_mark.specs.declared.marks.Mark.{Mark}
use Rattle.bz_mark.specs.declared.marks.Mark.TheVariants.{End, Cut}
use Rattle.bz_sound.specs.Calls.{Open, open_call}
use Rattle.bz_sound.specs.Memory.History.{Happening, EndedCall}
use Rattle.bz_sound.specs.Power.CutLaws.{CutsLeave, PowerMarksLeave}
use Rattle.bz_sound.specs.Power.History.{IsPending, Happens}

-- an ended call stays so
pub later-ended : (mark : Mark) (past : List Mark) (h : Happening) (moment : ℕ) (reply : Reply) → EndedCall past h moment reply → EndedCall (mark ∷ past) h moment reply
later-ended mark past h moment reply e = record {
  within = omega (arith, e.within);
  is_open = ap (open_call h.worker) (at_moment-earlier moment mark past (omega (arith, e.within))) ∙ e.is_open;
  ends = mark_at-earlier moment mark past e.within ∙ e.ends;
  no_full = e.no_full;
}

-- an End that is not the newest mark stood before
pub earlier-ended : (mark : Mark) (past : List Mark) (h : Happening) (moment : ℕ) (reply : Reply) → ((w n at : ℕ) (reply : Reply) → mark ≡ End w n reply at → ⊥) → EndedCall (mark ∷ past) h moment reply
    → EndedCall past h moment reply
earlier-ended mark past h moment reply none e = elim (cases_lt moment (length past)) [
  | inl earlier ↦ record {
    within = earlier;
    is_open = ap (open_call h.worker) (sym (at_moment-earlier moment mark past (omega arith))) ∙ e.is_open;
    ends = sym (mark_at-earlier moment mark past earlier) ∙ e.ends;
    no_full = e.no_full;
  }
  | inr last ↦ absurd (none h.worker h.opened.number h.at reply (newest-mark_at mark (End h.worker h.opened.number reply h.at) past moment last e.within e.ends))
]

-- a call that is open at the end is pending
pub pending-now : (past : List Mark) (w : ℕ) (opened : Open) → open_call w past ≡ Some opened → IsPending past w opened
pending-now past w opened is = record { moment = length past; breaks = inl refl; is_open = ap (open_call w) (at_moment-now past) ∙ is }

-- one that is pending is open there
pub open-now : (past : List Mark) (w : ℕ) (opened : Open) (moment : ℕ) → moment ≡ length past → open_call w (at_moment moment past) ≡ Some opened → open_call w past ≡ Some opened
open-now past w opened moment now is = ap (open_call w) (sym (ap (λ (k : ℕ). at_moment k past) now ∙ at_moment-now past)) ∙ is

-- one that is open at a cut stays pending
pub pending-cut : (mark : Mark) (past : List Mark) (w : ℕ) (opened : Open) (moment : ℕ) → moment < length past → mark_at moment past ≡ Some Cut → open_call w (at_moment moment past) ≡ Some opened
    → IsPending (mark ∷ past) w opened
pending-cut mark past w opened moment within cut is = record {
  moment = moment;
  breaks = inr (omega arith, mark_at-earlier moment mark past within ∙ cut);
  is_open = ap (open_call w) (at_moment-earlier moment mark past (omega arith)) ∙ is;
}

-- a cut leaves pending calls
later-pending : (past : List Mark) (w : ℕ) (opened : Open) → IsPending past w opened → IsPending (Cut ∷ past) w opened
later-pending past w opened p = elim p.breaks [
  | inl now ↦ record {
    moment = length past;
    breaks = inr (omega arith, mark_at-newest Cut past);
    is_open = ap (open_call w) (at_moment-before Cut past) ∙ open-now past w opened p.moment now p.is_open;
  }
  | inr (within, cut) ↦ pending-cut Cut past w opened p.moment within cut p.is_open
]

-- and adds none
earlier-pending : (past : List Mark) (w : ℕ) (opened : Open) → IsPending (Cut ∷ past) w opened → IsPending past w opened
earlier-pending past w opened p = elim p.breaks [
  | inl now ↦ let both : None ≡ Some opened = open-now (Cut ∷ past) w opened p.moment now p.is_open in absurd (cc)
  | inr (within, cut) ↦ elim (cases_lt p.moment (length past)) [
    | inl earlier ↦ record {
      moment = p.moment;
      breaks = inr (earlier, sym (mark_at-earlier p.moment Cut past earlier) ∙ cut);
      is_open = ap (open_call w) (sym (at_moment-earlier p.moment Cut past (omega arith))) ∙ p.is_open;
    }
    | inr last ↦
        let now : p.moment ≡ length past = omega arith in
        pending-now past w opened (sym (ap (λ (k : ℕ). open_call w (at_moment k (Cut ∷ past))) now ∙ ap (open_call w) (at_moment-before Cut past)) ∙ p.is_open)
  ]
]

pub happened-cut : (past : List Mark) (h : Happening) → Happens past h → Happens (Cut ∷ past) h
happened-cut past h happens = elim happens [
  | inl (moment, reply, e) ↦ inl (moment, reply, later-ended Cut past h moment reply e)
  | inr p ↦ inr (record { pending = later-pending past h.worker h.opened p.pending; took = p.took })
]

pub happened-before_cut : (past : List Mark) (h : Happening) → Happens (Cut ∷ past) h → Happens past h
happened-before_cut past h happens = elim happens [
  | inl (moment, reply, e) ↦ inl (moment, reply, earlier-ended Cut past h moment reply (λ w n at reply same. cc) e)
  | inr p ↦ inr (record { pending = earlier-pending past h.worker h.opened p.pending; took = p.took })
]

pub cuts-leave : CutsLeave
cuts-leave c start past = record {
  durable = refl;
  cached = refl;
  map = λ map. refl;
  decodes = (λ h. h, λ h. h);
  happened = λ h. (happened-before_cut past h, happened-cut past h);
  none_open = λ w. refl;
  numbers = λ w. refl;
}

pub marks-leave : PowerMarksLeave
marks-leave start past = (
  record { words = refl; map = λ map. refl; calls = λ w. refl },
  record { words = refl; map = λ map. refl; calls = λ w. refl },
)
