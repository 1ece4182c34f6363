-- Power on, and the acts of the recovery.
use Rattle.std.proofs.Common.{◌≡◌, ◌≢◌, ◌⊎◌, inl, inr, ℕ, zero, suc, Bool, true, false, List, ◌∷◌, refl, sym, ap, subst, ◌∙◌, arith, Option, Some, None}
use Rattle.std.specs.Prelude.{if◌then◌else◌, nat_lt, MatchOption}
use Rattle.std.proofs.lemmas.Bool.Decides.{nat_tests}
use Rattle.bz_swap_acts.specs.declared.acted.Act.{Act}
use Rattle.bz_swap_acts.specs.declared.acted.Act.TheVariants as act
use Rattle.bz_mark.specs.Log.{Log}
use Rattle.bz_mark.specs.declared.marks.Mark.{Mark}
use Rattle.bz_mark.specs.declared.marks.Mark.TheVariants as mark
use Rattle.bz_mark.specs.Times.{power_of}
use Rattle.bz_mark.specs.declared.power.Power.{Power}
use Rattle.bz_mark.specs.declared.power.Power.TheVariants as power
use Rattle.bz_world.specs.WorldView as lab
use Rattle.bz_world.specs.WorldView.{WorldView, power_in, flush_of, is_short, on_refusal, on_by, step_refusal, after_on, EndsRecovery as EndsSo, mark_of, IsApplied}
use Rattle.bz_world.specs.declared.answers.Applied.{Applied}
use Rattle.bz_world.specs.declared.answers.Applied.TheVariants as applied
use Rattle.bz_world.specs.declared.answers.Event.TheVariants as event
use Rattle.bz_world.specs.declared.answers.LimitKind.TheVariants as which
use Rattle.bz_sched.specs.Cutting.{HasNoPlace}
use Rattle.bz_sched.specs.Points.{actor, fences_of}
use Rattle.bz_sched.specs.Fuses.{lets, burnt}
use Rattle.bz_sched.specs.Powering.{IsOff, IsOn, IsStarted, StartStopped, IsGivenBack, GoesOnOrEnds, RecoversOnce, RecoveryStops, RecoversOn, HasRecovered}
use Rattle.bz_sched.specs.Recoveries.{off_by, Recovers, RecoversTimes, RecoversWhole}
use Rattle.bz_sched.specs.declared.turn.Stop.{Stop}
use Rattle.bz_sched.specs.declared.turn.Stop.TheVariants.{Due, Limit}
use Rattle.bz_sched.specs.declared.turn.Turned.TheVariants.{Finished, Stopped}
use Rattle.bz_sched.proofs.BurnLemmas.{burns_act, burns_both, burns_none}
use Rattle.bz_sched.proofs.CutLemmas.{WasCut, limit_met}
use Rattle.bz_sched.proofs.PowerLemmas.{act_power, act_fences, one_fence}

pub on_is_not_off : (world : WorldView) → power_in world ≡ power.On → power_in world ≢ power.Off
on_is_not_off world on off = let opposed : power.On ≡ power.Off = sym on ∙ off in cc opposed

pub recovering_is_not_off : (world : WorldView) → power_in world ≡ power.Recovering → power_in world ≢ power.Off
recovering_is_not_off world on off = let opposed : power.Recovering ≡ power.Off = sym on ∙ off in cc opposed

-- the power is off already
pub off_already : (old : WorldView) → power_in old ≡ power.Off → IsOff old old
off_already old off = record {
  stays = record { config = refl; at_start = refl; start = refl; limits = refl };
  off = off;
  past = ap (λ (p : Power). off_by p old.log.past) (sym off);
}

-- it was cut
pub off_now : (old new : WorldView) → power_in old ≡ power.On → WasCut old new → IsOff old new
off_now old new on cut = rw cut.is (record {
  stays = record { config = refl; at_start = refl; start = refl; limits = refl };
  off = refl;
  past = ap (λ (p : Power). off_by p old.log.past) (sym on);
})

-- power on answers one of two
abbrev by_on : Bool → Option Applied
by_on short = if short then Some applied.Limit else None

on_refusal_is : (world : WorldView) → power_in world ≡ power.Off → on_refusal world ≡ by_on (is_short world.log)
on_refusal_is world off = rw off refl

on_cases : (short : Bool) (old : WorldView) (answer : Applied) (new : WorldView) → is_short old.log ≡ short
    → MatchOption (by_on short) ((answer ≡ applied.On) × (new ≡ after_on old)) (λ refusal. (answer ≡ refusal) × (new ≡ old)) → ((answer ≡ applied.Limit) × HasNoPlace old new) ⊎ ((answer ≡ applied.On) × IsOn old new)
on_cases true old answer new is (e, same) = inl (e, record { short = is; same = same })
on_cases false old answer new is (e, same) = inr (e, rw same (record { stays = record { config = refl; at_start = refl; start = refl; limits = refl }; past = refl }))

pub on_made : (old : WorldView) (answer : Applied) (new : WorldView) → power_in old ≡ power.Off → IsApplied old event.On answer new → ((answer ≡ applied.Limit) × HasNoPlace old new) ⊎ ((answer ≡ applied.On) × IsOn old new)
on_made old answer new off h = on_cases (is_short old.log) old answer new refl (rw (on_refusal_is old off) at h)

-- the recovery may begin, or a place was wanting
pub started : (old mid new : WorldView) → IsOff old mid → IsOn mid new → IsStarted old new
started old mid new off on = record {
  stays = record { config = on.stays.config ∙ off.stays.config; at_start = on.stays.at_start ∙ off.stays.at_start; start = on.stays.start ∙ off.stays.start; limits = on.stays.limits ∙ off.stays.limits };
  past = on.past ∙ ap (λ (past : List Mark). mark.On ∷ past) off.past;
}

pub refused_start : (old new : WorldView) → HasNoPlace old new → StartStopped old new
refused_start old new none = rw none.same (record {
  stays = record { config = refl; at_start = refl; start = refl; limits = refl };
  past = inl refl;
  met = limit_met old none.short;
})

pub stopped_start : (old mid new : WorldView) → IsOff old mid → HasNoPlace mid new → StartStopped old new
stopped_start old mid new off none = rw none.same (record { stays = off.stays; past = inr off.past; met = limit_met mid none.short })

-- a step of the recovery
abbrev by_step : Bool → Bool → Option Applied
by_step no_worker short = if no_worker then Some applied.NoWorker else (if short then Some applied.Limit else None)

step_refusal_is : (world : WorldView) → power_in world ≡ power.Recovering → step_refusal world 0 ≡ by_step false (is_short world.log)
step_refusal_is world recovering =
    let some : nat_lt world.config.workers 0 ≡ false = grind (arith, nat_tests) in
    rw (some, recovering) refl

step_cases : (short : Bool) (old : WorldView) (answer : Applied) (new : WorldView) → is_short old.log ≡ short
    → MatchOption (by_step false short) (lab.Recovers old answer new) (λ refusal. (answer ≡ refusal) × (new ≡ old)) → ((answer ≡ applied.Limit) × HasNoPlace old new) ⊎ ((is_short old.log ≡ false) × lab.Recovers old answer new)
step_cases true old answer new is (e, same) = inl (e, record { short = is; same = same })
step_cases false old answer new is h = inr (is, h)

pub step_made : (old : WorldView) (answer : Applied) (new : WorldView) → power_in old ≡ power.Recovering → IsApplied old (event.Step 0) answer new → ((answer ≡ applied.Limit) × HasNoPlace old new) ⊎ ((is_short old.log ≡ false) × lab.Recovers old answer new)
step_made old answer new recovering h = step_cases (is_short old.log) old answer new refl (rw (step_refusal_is old recovering, recovering) at h)

act_own : (made : Act) → actor (mark_of 0 made) ≡ Some 0
act_own (act.Load a x) = refl
act_own (act.Store a x) = refl
act_own (act.Cas a old new found) = refl
act_own (act.Ask line) = refl
act_own act.Fence = refl

-- it goes on, or has ended
abbrev pub EitherWay : Applied → Type 0
EitherWay applied.Stepped = Unit {0}
EitherWay applied.Ready = Unit {0}
EitherWay other = ⊥

pub recovered_once : (old new : WorldView) (fuse left : Option ℕ) (answer : Applied) → power_in old ≡ power.Recovering → EitherWay answer → lab.Recovers old answer new → lets fuse (flush_of old 0) ≡ true → left ≡ burnt (flush_of old 0) fuse → RecoversOnce old fuse new left
recovered_once old new fuse left applied.Stepped recovering way r may is = record {
  stays = record { config = r.config; at_start = r.at_start; start = ap (λ (log : Log). log.start) r.ends; limits = ap (λ (log : Log). log.limits) r.ends };
  burns = burns_act old.log.past new.log.past fuse left (flush_of old 0) may (ap (λ (log : Log). fences_of log.past) r.ends ∙ act_fences r.made 0 old.log.past ∙ ap (λ (flush : Bool). one_fence flush (fences_of old.log.past)) r.flush) is;
  goes = inl (
    record { act = mark_of 0 r.made; own = act_own r.made; is = ap (λ (log : Log). log.past) r.ends },
    ap (λ (p : Power). power_of p new.log.past) r.at_start ∙ (ap (λ (log : Log). power_of old.at_start log.past) r.ends ∙ act_power old.at_start r.made 0 old.log.past ∙ recovering),
  );
}
recovered_once old new fuse left applied.Ready recovering way r may is = record {
  stays = record { config = r.config; at_start = r.at_start; start = ap (λ (log : Log). log.start) r.ends; limits = ap (λ (log : Log). log.limits) r.ends };
  burns = burns_act old.log.past new.log.past fuse left (flush_of old 0) may (ap (λ (log : Log). fences_of log.past) r.ends ∙ act_fences r.made 0 old.log.past ∙ ap (λ (flush : Bool). one_fence flush (fences_of old.log.past)) r.flush) is;
  goes = inr (mark_of 0 r.made ∷ old.log.past, record { act = mark_of 0 r.made; own = act_own r.made; is = refl }, ap (λ (log : Log). log.past) r.ends, record { taken = r.supply.0; left = r.supply.1 });
}
recovered_once old new fuse left answer recovering way r may is = absurd way

-- nothing else is answered
pub recovery_answers : (answer : Applied) (log new : Log) → EndsSo log answer new → EitherWay answer
recovery_answers applied.Stepped log new h = tt
recovery_answers applied.Ready log new h = tt
recovery_answers answer log new h = absurd h

pub no_refusal : (answer : Applied) → (answer ≡ applied.Stepped) ⊎ (answer ≡ applied.Ready) → answer ≡ applied.Limit → ⊥
no_refusal answer (inl is) refused = let opposed : applied.Stepped ≡ applied.Limit = sym is ∙ refused in cc opposed
no_refusal answer (inr is) refused = let opposed : applied.Ready ≡ applied.Limit = sym is ∙ refused in cc opposed

pub recovery_due : (old : WorldView) (fuse : Option ℕ) → (flush_of old 0 ≡ true) × (fuse ≡ Some 0) → RecoveryStops old fuse (Due 0) old fuse
recovery_due old fuse due = record { same = refl; kept = refl; stop = refl; stopped = due }

pub recovery_limit : (old new : WorldView) (fuse : Option ℕ) → HasNoPlace old new → RecoveryStops old fuse (Limit which.Marks) new fuse
recovery_limit old new fuse none = rw none.same (record { same = refl; kept = refl; stop = refl; stopped = limit_met old none.short })

-- the recovery has come so far
more_times : (count : ℕ) (old mid new : List Mark) → RecoversTimes count old mid → Recovers mid new → RecoversTimes (suc count) old new
more_times zero old mid new same r = (new, subst (λ (past : List Mark). Recovers past new) same r, refl)
more_times (suc count) old mid new (next, first, rest) r = (next, first, more_times count next mid new rest r)

abbrev pub IsOnTheWay : WorldView → WorldView → Type 0
IsOnTheWay old world =
    (((count : ℕ) × RecoversTimes count old.log.past world.log.past) × (power_in world ≡ power.Recovering))
    ⊎ (RecoversWhole old.log.past world.log.past × (power_in world ≡ power.On) × IsGivenBack world)

pub record Waking (old : WorldView) (fuse : Option ℕ) (world : WorldView) (left : Option ℕ) : Type 0 where
  pub on : RecoversOn old fuse world left
  pub way : IsOnTheWay old world

pub waking_none : (old : WorldView) (fuse : Option ℕ) → power_in old ≡ power.Recovering → Waking old fuse old fuse
waking_none old fuse recovering = record {
  on = record { stays = record { config = refl; at_start = refl; start = refl; limits = refl }; burns = burns_none old.log.past old.log.past fuse refl };
  way = inl ((0, refl), recovering);
}

once_way : (old world new : WorldView) (fuse left : Option ℕ) (count : ℕ) → RecoversTimes count old.log.past world.log.past → RecoversOnce world fuse new left → IsOnTheWay old new
once_way old world new fuse left count times r = by_way r.goes
  where
    by_way : GoesOnOrEnds world new → IsOnTheWay old new
    by_way (inl (act, still)) = inl ((suc count, more_times count old.log.past world.log.past new.log.past times act), still)
    by_way (inr (last, act, is, given)) = inr ((count, world.log.past, last, times, act, is), ap (power_of new.at_start) is, given)

pub waking_more : (old world new : WorldView) (fuse left after : Option ℕ) → Waking old fuse world left → power_in world ≡ power.Recovering → RecoversOnce world left new after → Waking old fuse new after
waking_more old world new fuse left after h recovering r = record {
  on = record {
    stays = record { config = r.stays.config ∙ h.on.stays.config; at_start = r.stays.at_start ∙ h.on.stays.at_start; start = r.stays.start ∙ h.on.stays.start; limits = r.stays.limits ∙ h.on.stays.limits };
    burns = burns_both old.log.past world.log.past new.log.past fuse left after h.on.burns r.burns;
  };
  way = by_way h.way;
}
  where
    by_way : IsOnTheWay old world → IsOnTheWay old new
    by_way (inl ((count, times), still)) = once_way old world new left after count times r
    by_way (inr (whole, on, given)) = let opposed : power.On ≡ power.Recovering = sym on ∙ recovering in absurd (cc opposed)

pub waking_stops : (old world new : WorldView) (fuse left after : Option ℕ) (why : Stop) → Waking old fuse world left → power_in world ≡ power.Recovering → RecoveryStops world left why new after → HasRecovered old fuse (Stopped why) new after
waking_stops old world new fuse left after why h recovering r = rw (r.same, r.kept) (h.on, by_way h.way, recovering, r.stop, rw (r.same, r.kept) at r.stopped)
  where
    by_way : IsOnTheWay old world → (count : ℕ) × RecoversTimes count old.log.past world.log.past
    by_way (inl (times, still)) = times
    by_way (inr (whole, on, given)) = let opposed : power.On ≡ power.Recovering = sym on ∙ recovering in absurd (cc opposed)

pub waking_done : (old world : WorldView) (fuse left : Option ℕ) → Waking old fuse world left → (power_in world ≡ power.Recovering → ⊥) → HasRecovered old fuse Finished world left
waking_done old world fuse left h over = by_way h.way
  where
    by_way : IsOnTheWay old world → HasRecovered old fuse Finished world left
    by_way (inl (times, still)) = absurd (over still)
    by_way (inr (whole, on, given)) = (h.on, whole, given)
