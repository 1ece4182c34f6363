-- Power on, and the acts of the recovery.
use Rattle.std.proofs.Common.{◌≡◌, ◌≢◌, ◌⊎◌, inl, inr, ℕ, zero, suc, Bool, true, false, List, ◌∷◌, refl, sym, ap, subst, ◌∙◌, arith, Option, Some, None}
use Rattle.std.specs.Prelude.{if◌then◌else◌, nat_lt, MatchOption}
use Rattle.std.proofs.lemmas.Bool.Decides.{nat_tests}
use Rattle.bz_swap_acts.specs.declared.acted.Act.{Act}
use Rattle.bz_swap_acts.specs.declared.acted.Act.TheVariants as act
use Rattle.bz_swap_marks.specs.Marks.{mark_of}
use Rattle.bz_ring.specs.declared.marks.QMark.{QMark}
use Rattle.bz_mark.specs.declared.marks.Mark.TheVariants.{On as PowerOn, Ready}
use Rattle.bz_ring.specs.declared.marks.QMark.TheVariants.{Memory}
use Rattle.bz_ring.specs.Follows.{power_after}
use Rattle.bz_mark.specs.declared.power.Power.{Power}
use Rattle.bz_mark.specs.declared.power.Power.TheVariants as power
use Rattle.bz_queue.specs.QueueView as lab
use Rattle.bz_queue.specs.QueueView.{QueueView, power_in, flush_of, is_short, on_refusal, on_by, step_refusal, after_on, EndsRecovery as EndsSo, off_refusal, after_cut, IsApplied}
use Rattle.bz_queue.specs.declared.answers.QApplied.{QApplied}
use Rattle.bz_queue.specs.declared.answers.QApplied.TheVariants as applied
use Rattle.bz_queue.specs.declared.answers.QEvent.TheVariants as event
use Rattle.bz_queue.specs.declared.answers.QLimit.TheVariants as which
use Rattle.bz_qsched.specs.Cutting.{HasNoPlace}
use Rattle.bz_qsched.specs.Points.{actor, fences_of}
use Rattle.bz_qsched.specs.Fuses.{lets, burnt, Burns}
use Rattle.bz_qsched.specs.Runs.{Stays}
use Rattle.bz_qsched.specs.Powering.{IsOff, IsOn, IsStarted, StartStopped, RecoversOnce, RecoversLast, RecoveryAnswers, RecoveryStops, RecoversOn, HasRecovered}
use Rattle.bz_qsched.specs.Recoveries.{off_by, turned_off, Recovers, RecoversTimes, RecoversWhole}
use Rattle.bz_qsched.specs.declared.turn.Stop.{Stop}
use Rattle.bz_qsched.specs.declared.turn.Stop.TheVariants.{Due, Limit}
use Rattle.bz_qsched.specs.declared.turn.Turned.{Turned}
use Rattle.bz_qsched.specs.declared.turn.Turned.TheVariants.{Finished, Stopped}
use Rattle.bz_qsched.proofs.BurnLemmas.{burns_act, burns_both, burns_none}
use Rattle.bz_qsched.proofs.CutLemmas.{WasCut, limit_met}
use Rattle.bz_qsched.proofs.PowerLemmas.{act_power, act_fences, one_fence}

pub on_is_not_off : (world : QueueView) → power_in world ≡ power.On → power_in world ≢ power.Off
on_is_not_off world on off = let opposed : power.On ≡ power.Off = sym on ∙ off in cc opposed

pub recovering_is_not_off : (world : QueueView) → power_in world ≡ power.Recovering → power_in world ≢ power.Off
recovering_is_not_off world on off = let opposed : power.Recovering ≡ power.Off = sym on ∙ off in cc opposed

-- the power is off already
pub off_already : (old : QueueView) → power_in old ≡ power.Off → IsOff old old
off_already old off = record {
  stays = record { numbers = refl; start = refl; most = refl };
  off = off;
  past = ap (λ (p : Power). off_by p old.log.past) (sym off);
}

-- it was cut
pub off_now : (old new : QueueView) → power_in old ≡ power.On → WasCut old new → IsOff old new
off_now old new on cut = rw cut.is (record {
  stays = record { numbers = refl; start = refl; most = refl };
  off = refl;
  past = ap (λ (p : Power). off_by p old.log.past) (sym on);
})

-- power on answers one of two
abbrev by_on : Bool → Option QApplied
by_on short = if short then Some applied.Limit else None

on_refusal_is : (world : QueueView) → power_in world ≡ power.Off → on_refusal world ≡ by_on (is_short world.log)
on_refusal_is world off = rw off refl

on_cases : (short : Bool) (old : QueueView) (answer : QApplied) (new : QueueView) → is_short old.log ≡ short
    → MatchOption (by_on short) ((answer ≡ applied.On) × (new ≡ after_on old)) (λ refusal. (answer ≡ refusal) × (new ≡ old)) → ((answer ≡ applied.Limit) × HasNoPlace old new) ⊎ ((answer ≡ applied.On) × IsOn old new)
on_cases true old answer new is (e, same) = inl (e, record { short = is; same = same })
on_cases false old answer new is (e, same) = inr (e, rw same (record { stays = record { numbers = refl; start = refl; most = refl }; past = refl }))

pub on_made : (old : QueueView) (answer : QApplied) (new : QueueView) → power_in old ≡ power.Off → IsApplied old event.On answer new → ((answer ≡ applied.Limit) × HasNoPlace old new) ⊎ ((answer ≡ applied.On) × IsOn old new)
on_made old answer new off h = on_cases (is_short old.log) old answer new refl (rw (on_refusal_is old off) at h)

-- the recovery may begin, or a place was wanting
pub started : (old mid new : QueueView) → IsOff old mid → IsOn mid new → IsStarted old new
started old mid new off on = record {
  stays = record { numbers = on.stays.numbers ∙ off.stays.numbers; start = on.stays.start ∙ off.stays.start; most = on.stays.most ∙ off.stays.most };
  past = on.past ∙ ap (λ (past : List QMark). Memory PowerOn ∷ past) off.past;
}

pub refused_start : (old new : QueueView) → HasNoPlace old new → StartStopped old new
refused_start old new none = rw none.same (record {
  stays = record { numbers = refl; start = refl; most = refl };
  past = inl refl;
  met = limit_met old none.short;
})

pub stopped_start : (old mid new : QueueView) → IsOff old mid → HasNoPlace mid new → StartStopped old new
stopped_start old mid new off none = rw none.same (record { stays = off.stays; past = inr off.past; met = limit_met mid none.short })

-- a step of the recovery
abbrev by_step : Bool → Bool → Option QApplied
by_step no_worker short = if no_worker then Some applied.NoWorker else (if short then Some applied.Limit else None)

step_refusal_is : (world : QueueView) → power_in world ≡ power.Recovering → step_refusal world 0 ≡ by_step false (is_short world.log)
step_refusal_is world recovering =
    let some : nat_lt world.numbers.workers 0 ≡ false = grind (arith, nat_tests) in
    rw (some, recovering) refl

step_cases : (short : Bool) (old : QueueView) (answer : QApplied) (new : QueueView) → is_short old.log ≡ short
    → MatchOption (by_step false short) (lab.Recovers old answer new) (λ refusal. (answer ≡ refusal) × (new ≡ old)) → ((answer ≡ applied.Limit) × HasNoPlace old new) ⊎ ((is_short old.log ≡ false) × lab.Recovers old answer new)
step_cases true old answer new is (e, same) = inl (e, record { short = is; same = same })
step_cases false old answer new is h = inr (is, h)

pub step_made : (old : QueueView) (answer : QApplied) (new : QueueView) → power_in old ≡ power.Recovering → IsApplied old (event.Step 0) answer new → ((answer ≡ applied.Limit) × HasNoPlace old new) ⊎ ((is_short old.log ≡ false) × lab.Recovers old answer new)
step_made old answer new recovering h = step_cases (is_short old.log) old answer new refl (rw (step_refusal_is old recovering, recovering) at h)

act_own : (made : Act) → actor (Memory (mark_of 0 made)) ≡ Some 0
act_own (act.Load a x) = refl
act_own (act.Store a x) = refl
act_own (act.Cas a old new found) = refl
act_own (act.Ask line) = refl
act_own act.Fence = refl

-- the power is cut where it is on, or is off already, or a place was wanting for the one or the other
abbrev pub TurnsOff : QueueView → QApplied → QueueView → Type 0
TurnsOff old answer new =
    ((answer ≡ applied.Limit) × HasNoPlace old new)
    ⊎ (((answer ≡ applied.Cut) × IsOff old new) ⊎ ((answer ≡ applied.Off) × IsOff old new))

turns_off_by : (short : Bool) (p : Power) (old : QueueView) (answer : QApplied) (new : QueueView) → is_short old.log ≡ short → power_in old ≡ p → (p ≡ power.Recovering → ⊥)
    → MatchOption (if short then Some applied.Limit else off_refusal p) ((answer ≡ applied.Cut) × (new ≡ after_cut old)) (λ refusal. (answer ≡ refusal) × (new ≡ old)) → TurnsOff old answer new
turns_off_by true p old answer new is at steady (e, same) = inl (e, record { short = is; same = same })
turns_off_by false power.On old answer new is at steady (e, same) = inr (inl (e, off_now old new at (record { room = is; is = same })))
turns_off_by false power.Off old answer new is at steady (e, same) = inr (inr (e, subst (λ (view : QueueView). IsOff old view) (sym same) (off_already old at)))
turns_off_by false power.Recovering old answer new is at steady h = absurd (steady refl)

pub turns_off : (old : QueueView) (answer : QApplied) (new : QueueView) → power_in old ≢ power.Recovering → IsApplied old event.Cut answer new → TurnsOff old answer new
turns_off old answer new steady h = turns_off_by (is_short old.log) (power_in old) old answer new refl refl steady h

pub neither_is_limit : (answer : QApplied) → (answer ≡ applied.Cut) ⊎ (answer ≡ applied.Off) → answer ≡ applied.Limit → ⊥
neither_is_limit answer (inl is) refused = let opposed : applied.Cut ≡ applied.Limit = sym is ∙ refused in cc opposed
neither_is_limit answer (inr is) refused = let opposed : applied.Off ≡ applied.Limit = sym is ∙ refused in cc opposed

-- a step of the recovery, by its answer
pub once_of : (old new : QueueView) (fuse left : Option ℕ) → power_in old ≡ power.Recovering → lab.Recovers old applied.Stepped new → lets fuse (flush_of old 0) ≡ true → left ≡ burnt (flush_of old 0) fuse → RecoversOnce old fuse new left
once_of old new fuse left recovering r may is = record {
  stays = record { numbers = ap (λ (view : QueueView). view.numbers) r.rest; start = ap (λ (view : QueueView). view.log.start) r.rest; most = ap (λ (view : QueueView). view.log.most) r.rest };
  burns = burns_act old.log.past new.log.past fuse left (flush_of old 0) may (ap fences_of r.ends ∙ act_fences r.made 0 old.log.past ∙ ap (λ (flush : Bool). one_fence flush (fences_of old.log.past)) r.flush) is;
  acts = record { act = Memory (mark_of 0 r.made); own = act_own r.made; is = r.ends };
  power = ap power_after r.ends ∙ act_power r.made 0 old.log.past ∙ recovering;
}

pub last_of : (old new : QueueView) (fuse left : Option ℕ) → lab.Recovers old applied.Ready new → lets fuse (flush_of old 0) ≡ true → left ≡ burnt (flush_of old 0) fuse → RecoversLast old fuse new left
last_of old new fuse left r may is = record {
  stays = record { numbers = ap (λ (view : QueueView). view.numbers) r.rest; start = ap (λ (view : QueueView). view.log.start) r.rest; most = ap (λ (view : QueueView). view.log.most) r.rest };
  burns = burns_act old.log.past new.log.past fuse left (flush_of old 0) may (ap fences_of r.ends ∙ act_fences r.made 0 old.log.past ∙ ap (λ (flush : Bool). one_fence flush (fences_of old.log.past)) r.flush) is;
  last = Memory (mark_of 0 r.made) ∷ old.log.past;
  acts = record { act = Memory (mark_of 0 r.made); own = act_own r.made; is = refl };
  past = r.ends;
  power = ap power_after r.ends;
}

pub recovery_due : (old : QueueView) (fuse : Option ℕ) → (flush_of old 0 ≡ true) × (fuse ≡ Some 0) → RecoveryStops old fuse (Due 0) old fuse
recovery_due old fuse due = record { same = refl; kept = refl; stop = refl; stopped = due }

pub recovery_limit : (old new : QueueView) (fuse : Option ℕ) → HasNoPlace old new → RecoveryStops old fuse (Limit which.Marks) new fuse
recovery_limit old new fuse none = rw none.same (record { same = refl; kept = refl; stop = refl; stopped = limit_met old none.short })

-- the recovery has come so far
more_times : (count : ℕ) (old mid new : List QMark) → RecoversTimes count old mid → Recovers mid new → RecoversTimes (suc count) old new
more_times zero old mid new same r = (new, subst (λ (past : List QMark). Recovers past new) same r, refl)
more_times (suc count) old mid new (next, first, rest) r = (next, first, more_times count next mid new rest r)

pub record Waking (old : QueueView) (fuse : Option ℕ) (world : QueueView) (left : Option ℕ) : Type 0 where
  pub on : RecoversOn old fuse world left
  pub count : ℕ
  pub times : RecoversTimes count old.log.past world.log.past
  pub still : power_in world ≡ power.Recovering

pub waking_none : (old : QueueView) (fuse : Option ℕ) → power_in old ≡ power.Recovering → Waking old fuse old fuse
waking_none old fuse recovering = record {
  on = record { stays = record { numbers = refl; start = refl; most = refl }; burns = burns_none old.log.past old.log.past fuse refl };
  count = 0;
  times = refl;
  still = recovering;
}

module _ (old world new : QueueView) (fuse left after : Option ℕ) (h : Waking old fuse world left) where
  on_more : Stays world new → Burns world.log.past left new.log.past after → RecoversOn old fuse new after
  on_more stays burns = record {
    stays = record { numbers = stays.numbers ∙ h.on.stays.numbers; start = stays.start ∙ h.on.stays.start; most = stays.most ∙ h.on.stays.most };
    burns = burns_both old.log.past world.log.past new.log.past fuse left after h.on.burns burns;
  }

  pub waking_more : RecoversOnce world left new after → Waking old fuse new after
  waking_more r = record { on = on_more r.stays r.burns; count = suc h.count; times = more_times h.count old.log.past world.log.past new.log.past h.times r.acts; still = r.power }

  pub waking_ends : (end : Turned) → RecoveryAnswers world left (Some end) new after → HasRecovered old fuse end new after
  waking_ends Finished r = (on_more r.stays r.burns, (h.count, world.log.past, r.last, h.times, r.acts, r.past), r.power)
  waking_ends (Stopped why) r = rw (r.same, r.kept) (h.on, (h.count, h.times), h.still, r.stop, rw (r.same, r.kept) at r.stopped)
