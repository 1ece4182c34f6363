-- One item of a script.
use Rattle.std.proofs.Common.{◌≡◌, ◌≢◌, ◌≤◌, inl, inr, sym, subst, ℕ, ◌+◌, ◌∙◌, List, [], ◌∷◌, ◌++◌, refl, arith, Option, Some, None}
use Rattle.bz_mark.specs.declared.power.Power.TheVariants as power
use Rattle.bz_qscript.specs.declared.item.QItem.TheVariants.{Queue, Arm, Run, Power}
use Rattle.bz_qscript.specs.declared.item.QPlan.{QPlan}
use Rattle.bz_queue.specs.QueueView.{QueueView, power_in}
use Rattle.bz_queue.specs.declared.answers.QLimit.{QLimit}
use Rattle.bz_queue.specs.declared.open.Numbers.{Numbers}
use Rattle.bz_ring.specs.Content.{size_of}
use Rattle.bz_ring.specs.declared.calls.QCall.{QCall}
use Rattle.bz_script.specs.declared.cut_plan.CutPlan.{CutPlan}
use Rattle.bz_qsched.specs.AtLimit.{MeetsLimit}
use Rattle.bz_qsched.specs.Items.{HasDone, end_in, left_after}
use Rattle.bz_qsched.specs.Queued.{Queued}
use Rattle.bz_qsched.specs.Recoveries.{Powers, PowersCut}
use Rattle.bz_qsched.specs.Runs.{point_of, point_with, IsAtLimit, Stays, IsCutPlan, HasRun, HasPower}
use Rattle.bz_qsched.specs.declared.items.ItemsEnd.TheVariants as end
use Rattle.bz_qsched.specs.declared.running.RunEnd.{RunEnd}
use Rattle.bz_qsched.specs.declared.running.RunEnd.TheVariants.{Finished, Cut, Limit}

pub queue_done : (world : QueueView) (queue left : Queued) (armed : Option CutPlan) (w : ℕ) (call : QCall) → power_in world ≢ power.Recovering → IsCutPlan armed → left.calls ≡ queue.calls ++ (w, call) ∷ [] → left.room + 1 ≡ queue.room
    → HasDone armed world queue (Queue w call) end.Finished armed world left
queue_done world queue left armed w call steady cut calls fits = record {
  stays = record { numbers = refl; start = refl; most = refl };
  steady = steady;
  room = omega (arith, fits);
  cut = cut;
  leads = (refl, rw calls refl);
  power = refl;
}

pub arm_done : (world : QueueView) (queue : Queued) (armed : Option CutPlan) (cut : CutPlan) → power_in world ≢ power.Recovering → 1 ≤ cut.flush → HasDone armed world queue (Arm cut) end.Finished (Some cut) world queue
arm_done world queue armed cut steady some = record {
  stays = record { numbers = refl; start = refl; most = refl };
  steady = steady;
  room = omega arith;
  cut = some;
  leads = (refl, refl);
  power = refl;
}

-- the power that is on or off is not that of a recovery
pub on_steady : (world : QueueView) → power_in world ≡ power.On → power_in world ≢ power.Recovering
on_steady world on recovering = let opposed : power.On ≡ power.Recovering = sym on ∙ recovering in absurd (cc opposed)

off_steady : (world : QueueView) → power_in world ≡ power.Off → power_in world ≢ power.Recovering
off_steady world off recovering = let opposed : power.Off ≡ power.Recovering = sym off ∙ recovering in absurd (cc opposed)

-- a limit that is met at the end of an item
limit_is : (old new : QueueView) (which : QLimit) → Stays old new → IsAtLimit new which → MeetsLimit old.log.most old.numbers.calls new.log.past which
limit_is old new which stays met =
    subst (λ (marks : ℕ). MeetsLimit marks old.numbers.calls new.log.past which) stays.most
    (subst (λ (numbers : Numbers). MeetsLimit new.log.most numbers.calls new.log.past which) stays.numbers met)

pub run_done : (old new : QueueView) (queue left : Queued) (armed : Option CutPlan) (plan : QPlan) (end : RunEnd) → HasRun armed plan old queue end new left → HasDone armed old queue (Run plan) (end_in end) None new left
run_done old new queue left armed plan Finished (leaves, on, runs) = record {
  stays = leaves.stays;
  steady = on_steady new on;
  room = omega (arith, leaves.room);
  cut = tt;
  leads = (refl, inl runs);
  power = λ none. on;
}
run_done old new queue left None plan Cut (leaves, off, runs) = absurd runs
run_done old new queue left (Some cut) plan Cut (leaves, off, runs) = record {
  stays = leaves.stays;
  steady = off_steady new off;
  room = omega (arith, leaves.room);
  cut = tt;
  leads = (refl, inr runs);
  power = λ none. absurd (cc none);
}
run_done old new queue left armed plan (Limit which) (stays, runs, met) = record {
  stays = stays;
  at = point_of new left;
  leads = (runs, limit_is old new which stays met);
  past = refl;
}

-- power on, and then the calls were dropped where its cut was made
module _ (old new : QueueView) (queue left : Queued) (fits : queue.room ≤ left.room) where
  pub power_done : (armed : Option CutPlan) (end : RunEnd) → left.calls ≡ left_after end queue.calls → HasPower armed old end new → HasDone armed old queue Power (end_in end) None new left
  power_done armed Finished same (stays, on, powers) = record {
    stays = stays;
    steady = on_steady new on;
    room = omega (arith, fits);
    cut = tt;
    leads = (refl, inl (subst (λ (calls : List (ℕ × QCall)). Powers armed (point_of old queue) (point_with new calls)) (sym same) (powers queue.calls)));
    power = λ none. on;
  }
  power_done None Cut same (stays, off, powers) = absurd (powers [])
  power_done (Some cut) Cut same (stays, off, powers) = record {
    stays = stays;
    steady = off_steady new off;
    room = omega (arith, fits);
    cut = tt;
    leads = (refl, inr (subst (λ (calls : List (ℕ × QCall)). PowersCut old.log.start (size_of old.numbers.ring) (Some cut) (point_of old queue) (point_with new calls)) (sym same) (powers queue.calls)));
    power = λ none. absurd (cc none);
  }
  power_done armed (Limit which) same (stays, powers, met) = record { stays = stays; at = point_with new queue.calls; leads = (powers queue.calls, limit_is old new which stays met); past = refl }
