-- How power on ends, with a cut armed and without.
use Rattle.std.proofs.Common.{◌≡◌, ◌≤◌, inl, inr, ℕ, ◌+◌, ◌-◌, true, false, Bool, List, [], get_or, refl, ap, subst, ◌∙◌, Option, Some}
use Rattle.bz_call.specs.declared.calls.Call.{Call}
use Rattle.bz_layout.specs.Addresses.{words_of}
use Rattle.bz_layout.specs.declared.config.Config.{Config}
use Rattle.bz_mark.specs.declared.marks.Mark.{Mark}
use Rattle.bz_mark.specs.Times.{power_of}
use Rattle.bz_mark.specs.declared.power.Power.TheVariants as power
use Rattle.bz_world.specs.WorldView.{WorldView, power_in, flush_of}
use Rattle.bz_world.specs.declared.answers.LimitKind.{LimitKind}
use Rattle.bz_world.specs.declared.answers.LimitKind.TheVariants as which
use Rattle.bz_sched.specs.Cuts.{CutsOff, CutsOffInPart}
use Rattle.bz_sched.specs.Cutting.{IsCutOff}
use Rattle.bz_sched.specs.Plans.{IsBefore}
use Rattle.bz_sched.specs.Powering.{IsStarted, StartStopped, RecoversOn}
use Rattle.bz_sched.specs.Points.{fences_of}
use Rattle.bz_sched.specs.Recoveries.{RecoversTimes, RecoversWhole, IsDueInRecovery}
use Rattle.bz_sched.specs.Runs.{point_with, IsAtLimit, Stays, HasPower}
use Rattle.bz_script.specs.declared.cut_plan.CutPlan.{CutPlan}
use Rattle.bz_sched.specs.declared.running.RunEnd.{RunEnd}
use Rattle.bz_sched.specs.declared.running.RunEnd.TheVariants as end
use Rattle.bz_sched.proofs.BurnLemmas.{due_fences}

pub stays_both : (a b c : WorldView) → Stays a b → Stays b c → Stays a c
stays_both a b c h k = record { config = k.config ∙ h.config; at_start = k.at_start ∙ h.at_start; start = k.start ∙ h.start; limits = k.limits ∙ h.limits }

-- a recovery that has begun is under way
pub on_recovers : (old new : WorldView) → IsStarted old new → power_in new ≡ power.Recovering
on_recovers old new s = ap (power_of new.at_start) s.past

-- a place was wanting before the recovery
pub start_stops : (cut : Option CutPlan) (old new : WorldView) → StartStopped old new → HasPower cut old (end.Limit which.Marks) new
start_stops cut old new h = elim h.past [
  | inl same ↦ (h.stays, (λ calls. (refl, inl (same, refl))), h.met)
  | inr off ↦ (h.stays, (λ calls. (refl, inr (inl (off, refl)))), h.met)
]

-- the recovery began, and has come so far, with a cut armed or without
module _ (old mid new : WorldView) (fuse left : Option ℕ) (s : IsStarted old mid) (r : RecoversOn mid fuse new left) where
  all_stay : Stays old new
  all_stay = stays_both old mid new s.stays r.stays

  pub wakes : (cut : Option CutPlan) → IsBefore cut mid.log.past new.log.past → RecoversWhole mid.log.past new.log.past → HasPower cut old end.Finished new
  wakes cut before whole = (
    all_stay,
    ap (power_of new.at_start) whole.5,
    (λ calls. (subst (λ (past : List Mark). RecoversWhole past new.log.past) s.past whole, subst (λ (past : List Mark). IsBefore cut past new.log.past) s.past before, refl)),
  )

  pub wake_limit : (cut : Option CutPlan) (why : LimitKind) → IsBefore cut mid.log.past new.log.past → (count : ℕ) × RecoversTimes count mid.log.past new.log.past → why ≡ which.Marks → IsAtLimit new why → HasPower cut old (end.Limit why) new
  wake_limit cut why before (count, times) is met = (
    all_stay,
    (λ calls. (is, inr (inr (inl (count, subst (λ (past : List Mark). RecoversTimes count past new.log.past) s.past times, subst (λ (past : List Mark). IsBefore cut past new.log.past) s.past before, refl))))),
    met,
  )

  pub wake_due : (cut : CutPlan) → 1 ≤ cut.flush → fuse ≡ Some (cut.flush - 1) → (count : ℕ) × RecoversTimes count mid.log.past new.log.past → left ≡ Some 0
      → (calls : List (ℕ × Call)) → IsDueInRecovery old.at_start cut (point_with old calls) (point_with new calls)
  wake_due cut some armed_so (count, times) none calls = record {
    count = count;
    recovers = subst (λ (past : List Mark). RecoversTimes count past new.log.past) s.past times;
    flushes = subst (λ (past : List Mark). fences_of new.log.past + 1 ≡ fences_of past + cut.flush) s.past (due_fences cut mid.log.past new.log.past fuse left some armed_so none r.burns);
    queue = refl;
  }

  pub wake_cut : (cut : CutPlan) (end : RunEnd) (after : WorldView) → ((calls : List (ℕ × Call)) → IsDueInRecovery old.at_start cut (point_with old calls) (point_with new calls)) → flush_of new 0 ≡ true → IsCutOff cut.seed new end after → HasPower (Some cut) old end after
  wake_cut cut end.Finished after due flush h = absurd h
  wake_cut cut end.Cut after due flush (stays, off, left_out, cuts) = (
    stays_both old new after all_stay stays,
    off,
    (λ calls. (
      point_with new calls,
      due calls,
      subst (λ (start : List ℕ). CutsOff start (words_of old.config) cut.seed (point_with new calls) (point_with after [])) all_stay.start
          (subst (λ (c : Config). CutsOff new.log.start (words_of c) cut.seed (point_with new calls) (point_with after [])) all_stay.config (cuts calls)),
    )),
    ap (λ (flags : List Bool). get_or flags 0 false) left_out ∙ flush,
  )
  wake_cut cut (end.Limit why) after due flush (stays, is, cuts, met) = (
    stays_both old new after all_stay stays,
    (λ calls. (
      is,
      inr (inr (inr (
        point_with new calls,
        due calls,
        subst (λ (start : List ℕ). CutsOffInPart start (words_of old.config) cut.seed (point_with new calls) (point_with after calls)) all_stay.start
            (subst (λ (c : Config). CutsOffInPart new.log.start (words_of c) cut.seed (point_with new calls) (point_with after calls)) all_stay.config (cuts calls)),
      ))),
    )),
    met,
  )
