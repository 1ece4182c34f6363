-- One item of a script.
use Rattle.std.proofs.Common.{◌≡◌, ◌≢◌, ◌≤◌, inl, inr, sym, subst, ℕ, ◌+◌, ◌∙◌, true, false, List, [], ◌∷◌, ◌++◌, refl, arith, Option, Some, None}
use Rattle.bz_call.specs.declared.calls.Call.{Call}
use Rattle.bz_mark.specs.Log.{Limits}
use Rattle.bz_script.specs.declared.item.Item.TheVariants.{Queue, Arm, Run, Power}
use Rattle.bz_script.specs.Order.{takes_no_cut}
use Rattle.bz_script.specs.declared.item.Plan.{Plan}
use Rattle.bz_script.specs.declared.item.Plan.TheVariants.{Alone, List as Listed, Turns, Threads}
use Rattle.bz_sched.specs.AtLimit.{MeetsLimit}
use Rattle.bz_sched.specs.Points.{Point}
use Rattle.bz_sched.specs.Queued.{Queued}
use Rattle.bz_sched.specs.Recoveries.{Powers, PowersCut}
use Rattle.bz_sched.specs.Runs.{point_of, point_with, IsAtLimit, Stays, IsOfTurns, IsCutPlan, HasRun, HasPower}
use Rattle.bz_sched.specs.Scripts.{MeetsBy}
use Rattle.bz_script.specs.declared.cut_plan.CutPlan.{CutPlan}
use Rattle.bz_sched.specs.declared.running.RunEnd.{RunEnd}
use Rattle.bz_sched.specs.declared.running.RunEnd.TheVariants.{Finished, Cut, Limit}
use Rattle.bz_layout.specs.Addresses.{words_of}
use Rattle.bz_mark.specs.declared.power.Power.TheVariants as power
use Rattle.bz_sched.specs.FromWorld.WorldView.{WorldView, power_in}
use Rattle.bz_sched.specs.FromWorld.LimitKind.{LimitKind}
use Rattle.bz_threads.specs.Ends.{HasRunThreads}
use Rattle.bz_threads.specs.declared.running.ThreadsEnd.{ThreadsEnd}
use Rattle.bz_threads.specs.declared.running.ThreadsEnd.TheVariants as threads
use Rattle.bz_top.specs.Items.{HasDone, end_in, left_after, end_of_threads}
use Rattle.bz_top.specs.declared.items.ItemsEnd.TheVariants as end

pub queue_done : (world : WorldView) (queue left : Queued) (armed : Option CutPlan) (w : ℕ) (call : Call) → power_in world ≢ power.Recovering → IsCutPlan armed → left.calls ≡ queue.calls ++ (w, call) ∷ [] → left.room + 1 ≡ queue.room
    → HasDone armed world queue (Queue w call) end.Finished armed world left
queue_done world queue left armed w call steady cut calls fits = record {
  stays = record { config = refl; at_start = refl; start = refl; limits = refl };
  steady = steady;
  room = omega (arith, fits);
  cut = cut;
  leads = (refl, rw calls refl);
  power = refl;
}

pub arm_done : (world : WorldView) (queue : Queued) (armed : Option CutPlan) (flush seed : ℕ) → power_in world ≢ power.Recovering → 1 ≤ flush → HasDone armed world queue (Arm flush seed) end.Finished (Some (record { flush = flush; seed = seed })) world queue
arm_done world queue armed flush seed steady some = record {
  stays = record { config = refl; at_start = refl; start = refl; limits = refl };
  steady = steady;
  room = omega arith;
  cut = some;
  leads = (refl, refl);
  power = refl;
}

-- the power that is on or off is not that of a recovery
pub on_steady : (world : WorldView) → power_in world ≡ power.On → power_in world ≢ power.Recovering
on_steady world on recovering = let opposed : power.On ≡ power.Recovering = sym on ∙ recovering in absurd (cc opposed)

off_steady : (world : WorldView) → power_in world ≡ power.Off → power_in world ≢ power.Recovering
off_steady world off recovering = let opposed : power.Off ≡ power.Recovering = sym off ∙ recovering in absurd (cc opposed)

-- a limit that is met at the end of an item, whatever it was
limit_is : (old new : WorldView) (which : LimitKind) → Stays old new → IsAtLimit new which → MeetsLimit old.log.limits new.log.past which
limit_is old new which stays met = subst (λ (limits : Limits). MeetsLimit limits new.log.past which) stays.limits met

meets_by : (plan : Plan) (limits : Limits) (which : LimitKind) (old new : Point) → MeetsLimit limits new.past which → MeetsBy plan limits which old new
meets_by Alone limits which old new met = met
meets_by (Listed turns) limits which old new met = met
meets_by (Turns seed) limits which old new met = met
meets_by Threads limits which old new met = inl met

pub run_done : (old new : WorldView) (queue left : Queued) (armed : Option CutPlan) (plan : Plan) (end : RunEnd) → HasRun armed plan old queue end new left → HasDone armed old queue (Run plan) (end_in end) None new left
run_done old new queue left armed plan Finished (leaves, on, runs) = record {
  stays = leaves.stays;
  steady = on_steady new on;
  room = omega (arith, leaves.room);
  cut = tt;
  leads = (refl, inl runs);
  power = λ none. on;
}
run_done old new queue left None plan Cut (leaves, off, (w, runs, flush)) = absurd runs
run_done old new queue left (Some cut) plan Cut (leaves, off, (w, runs, flush)) = record {
  stays = leaves.stays;
  steady = off_steady new off;
  room = omega (arith, leaves.room);
  cut = tt;
  leads = (refl, inr (w, runs));
  power = λ none. absurd (cc none);
}
run_done old new queue left armed plan (Limit which) (stays, runs, met) = record {
  stays = stays;
  at = point_of new left;
  leads = (runs, meets_by plan old.log.limits which (point_of old queue) (point_of new left) (limit_is old new which stays met));
  past = refl;
}

-- power on, and then the calls were dropped where its cut was made
module _ (old new : WorldView) (queue left : Queued) (fits : queue.room ≤ left.room) where
  pub power_done : (armed : Option CutPlan) (end : RunEnd) → left.calls ≡ left_after end queue.calls → HasPower armed old end new → HasDone armed old queue Power (end_in end) None new left
  power_done armed Finished same (stays, on, powers) = record {
    stays = stays;
    steady = on_steady new on;
    room = omega (arith, fits);
    cut = tt;
    leads = (refl, inl (subst (λ (calls : List (ℕ × Call)). Powers old.at_start armed (point_of old queue) (point_with new calls)) (sym same) (powers queue.calls)));
    power = λ none. on;
  }
  power_done None Cut same (stays, off, powers, flush) = absurd (powers [])
  power_done (Some cut) Cut same (stays, off, powers, flush) = record {
    stays = stays;
    steady = off_steady new off;
    room = omega (arith, fits);
    cut = tt;
    leads = (refl, inr (subst (λ (calls : List (ℕ × Call)). PowersCut old.at_start old.log.start (words_of old.config) (Some cut) (point_of old queue) (point_with new calls)) (sym same) (powers queue.calls)));
    power = λ none. absurd (cc none);
  }
  power_done armed (Limit which) same (stays, powers, met) = record { stays = stays; at = point_with new queue.calls; leads = (powers queue.calls, limit_is old new which stays met); past = refl }

-- a plan that takes a cut takes turns, and the other one is that of threads
pub of_turns : (plan : Plan) → takes_no_cut plan ≡ false → IsOfTurns plan
of_turns Alone takes = tt
of_turns (Listed turns) takes = tt
of_turns (Turns seed) takes = tt
of_turns Threads takes = absurd (cc takes)

of_threads : (plan : Plan) → takes_no_cut plan ≡ true → plan ≡ Threads
of_threads Alone takes = absurd (cc takes)
of_threads (Listed turns) takes = absurd (cc takes)
of_threads (Turns seed) takes = absurd (cc takes)
of_threads Threads takes = refl

by_threads : (old new : WorldView) (queue left : Queued) (how : ThreadsEnd) → HasRunThreads old queue how new left → HasDone None old queue (Run Threads) (end_of_threads how) None new left
by_threads old new queue left threads.Finished (leaves, on, runs) = record {
  stays = leaves.stays;
  steady = on_steady new on;
  room = omega (arith, leaves.room);
  cut = tt;
  leads = (refl, inl runs);
  power = λ none. on;
}
by_threads old new queue left (threads.Limit which) (stays, (at, runs, past, met)) = record { stays = stays; at = at; leads = (inl (runs, tt), met); past = past }
by_threads old new queue left threads.Memory (stays, (at, ends, past)) = record { stays = stays; at = at; leads = ends; past = past }

pub threads_done : (old new : WorldView) (queue left : Queued) (armed : Option CutPlan) (plan : Plan) (how : ThreadsEnd) → takes_no_cut plan ≡ true → (takes_no_cut plan ≡ true → armed ≡ None) → HasRunThreads old queue how new left
    → HasDone armed old queue (Run plan) (end_of_threads how) None new left
threads_done old new queue left armed plan how is none run =
    subst (λ (p : Plan). HasDone armed old queue (Run p) (end_of_threads how) None new left) (sym (of_threads plan is))
    (subst (λ (a : Option CutPlan). HasDone a old queue (Run Threads) (end_of_threads how) None new left) (sym (none is)) (by_threads old new queue left how run))
