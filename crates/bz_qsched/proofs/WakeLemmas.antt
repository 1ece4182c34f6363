-- How power on ends, with a cut armed and without.
use Rattle.std.proofs.Common.{◌≡◌, ◌≤◌, inl, inr, ℕ, ◌+◌, ◌-◌, List, [], refl, ap, subst, ◌∙◌, Option, Some}
use Rattle.bz_ring.specs.declared.calls.QCall.{QCall}
use Rattle.bz_ring.specs.Content.{size_of}
use Rattle.bz_queue.specs.declared.open.Numbers.{Numbers}
use Rattle.bz_ring.specs.declared.marks.QMark.{QMark}
use Rattle.bz_ring.specs.Follows.{power_after}
use Rattle.bz_mark.specs.declared.power.Power.TheVariants as power
use Rattle.bz_queue.specs.QueueView.{QueueView, power_in}
use Rattle.bz_queue.specs.declared.answers.QLimit.{QLimit}
use Rattle.bz_queue.specs.declared.answers.QLimit.TheVariants as which
use Rattle.bz_qsched.specs.Cuts.{CutsOff, CutsOffInPart}
use Rattle.bz_qsched.specs.Cutting.{IsCutOff}
use Rattle.bz_qsched.specs.Plans.{IsBefore}
use Rattle.bz_qsched.specs.Powering.{IsStarted, StartStopped, RecoversOn}
use Rattle.bz_qsched.specs.Points.{fences_of}
use Rattle.bz_qsched.specs.Recoveries.{RecoversTimes, RecoversWhole, IsDueInRecovery}
use Rattle.bz_qsched.specs.Runs.{point_with, IsAtLimit, Stays, HasPower}
use Rattle.bz_script.specs.declared.cut_plan.CutPlan.{CutPlan}
use Rattle.bz_qsched.specs.declared.running.RunEnd.{RunEnd}
use Rattle.bz_qsched.specs.declared.running.RunEnd.TheVariants as end
use Rattle.bz_qsched.proofs.BurnLemmas.{due_fences}

pub stays_both : (a b c : QueueView) → Stays a b → Stays b c → Stays a c
stays_both a b c h k = record { numbers = k.numbers ∙ h.numbers; start = k.start ∙ h.start; most = k.most ∙ h.most }

-- a recovery that has begun is under way
pub on_recovers : (old new : QueueView) → IsStarted old new → power_in new ≡ power.Recovering
on_recovers old new s = ap power_after s.past

-- a place was wanting before the recovery
pub start_stops : (cut : Option CutPlan) (old new : QueueView) → StartStopped old new → HasPower cut old (end.Limit which.Marks) new
start_stops cut old new h = elim h.past [
  | inl same ↦ (h.stays, (λ calls. (refl, inl (same, refl))), h.met)
  | inr off ↦ (h.stays, (λ calls. (refl, inr (inl (off, refl)))), h.met)
]

-- the recovery began, and has come so far, with a cut armed or without
module _ (old mid new : QueueView) (fuse left : Option ℕ) (s : IsStarted old mid) (r : RecoversOn mid fuse new left) where
  all_stay : Stays old new
  all_stay = stays_both old mid new s.stays r.stays

  pub wakes : (cut : Option CutPlan) → IsBefore cut mid.log.past new.log.past → RecoversWhole mid.log.past new.log.past → power_in new ≡ power.On → HasPower cut old end.Finished new
  wakes cut before whole on = (
    all_stay,
    on,
    (λ calls. (subst (λ (past : List QMark). RecoversWhole past new.log.past) s.past whole, subst (λ (past : List QMark). IsBefore cut past new.log.past) s.past before, refl)),
  )

  pub wake_limit : (cut : Option CutPlan) (why : QLimit) → IsBefore cut mid.log.past new.log.past → (count : ℕ) × RecoversTimes count mid.log.past new.log.past → why ≡ which.Marks → IsAtLimit new why → HasPower cut old (end.Limit why) new
  wake_limit cut why before (count, times) is met = (
    all_stay,
    (λ calls. (is, inr (inr (inl (count, subst (λ (past : List QMark). RecoversTimes count past new.log.past) s.past times, subst (λ (past : List QMark). IsBefore cut past new.log.past) s.past before, refl))))),
    met,
  )

  pub wake_due : (cut : CutPlan) → 1 ≤ cut.flush → fuse ≡ Some (cut.flush - 1) → (count : ℕ) × RecoversTimes count mid.log.past new.log.past → left ≡ Some 0
      → (calls : List (ℕ × QCall)) → IsDueInRecovery cut (point_with old calls) (point_with new calls)
  wake_due cut some armed_so (count, times) none calls = record {
    count = count;
    recovers = subst (λ (past : List QMark). RecoversTimes count past new.log.past) s.past times;
    flushes = subst (λ (past : List QMark). fences_of new.log.past + 1 ≡ fences_of past + cut.flush) s.past (due_fences cut mid.log.past new.log.past fuse left some armed_so none r.burns);
    queue = refl;
  }

  pub wake_cut : (cut : CutPlan) (end : RunEnd) (after : QueueView) → ((calls : List (ℕ × QCall)) → IsDueInRecovery cut (point_with old calls) (point_with new calls)) → IsCutOff cut.seed new end after → HasPower (Some cut) old end after
  wake_cut cut end.Finished after due h = absurd h
  wake_cut cut end.Cut after due (stays, off, cuts) = (
    stays_both old new after all_stay stays,
    off,
    (λ calls. (
      point_with new calls,
      due calls,
      subst (λ (start : List ℕ). CutsOff start (size_of old.numbers.ring) cut.seed (point_with new calls) (point_with after [])) all_stay.start
          (subst (λ (c : Numbers). CutsOff new.log.start (size_of c.ring) cut.seed (point_with new calls) (point_with after [])) all_stay.numbers (cuts calls)),
    )),
  )
  wake_cut cut (end.Limit why) after due (stays, is, cuts, met) = (
    stays_both old new after all_stay stays,
    (λ calls. (
      is,
      inr (inr (inr (
        point_with new calls,
        due calls,
        subst (λ (start : List ℕ). CutsOffInPart start (size_of old.numbers.ring) cut.seed (point_with new calls) (point_with after calls)) all_stay.start
            (subst (λ (c : Numbers). CutsOffInPart new.log.start (size_of c.ring) cut.seed (point_with new calls) (point_with after calls)) all_stay.numbers (cuts calls)),
      ))),
    )),
    met,
  )
