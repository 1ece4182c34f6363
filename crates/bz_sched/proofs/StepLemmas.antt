-- Steps of a worker's open call.
use Rattle.std.proofs.Common.{◌≡◌, ◌⊎◌, inl, inr, ℕ, Bool, true, false, List, [], ◌∷◌, ◌++◌, refl, ap, ◌∙◌, arith, Option, Some, None, ◌==◌, nat_lt}
use Rattle.std.specs.Prelude.{is_none, is_some, if◌then◌else◌, MatchOption}
use Rattle.std.proofs.lemmas.Bool.Decides.{nat_tests}
use Rattle.bz_swap_acts.specs.Rule.{is_fence_act}
use Rattle.bz_swap_acts.specs.declared.acted.Act.{Act}
use Rattle.bz_swap_acts.specs.declared.acted.Act.TheVariants as act
use Rattle.bz_mark.specs.Log.{Log}
use Rattle.bz_mark.specs.declared.marks.Mark.{Mark}
use Rattle.bz_mark.specs.declared.marks.Mark.TheVariants as mark
use Rattle.bz_mark.specs.declared.power.Power.{Power}
use Rattle.bz_sound.specs.Calls.{Open, open_call}
use Rattle.bz_mark.specs.Times.{power_of}
use Rattle.bz_world.specs.WorldView.{WorldView, IsWorker, flush_of, is_short, step_refusal, mark_of, IsStruck, GoesOn, Steps, IsApplied}
use Rattle.bz_world.specs.declared.answers.Applied.{Applied}
use Rattle.bz_world.specs.declared.answers.Applied.TheVariants as applied
use Rattle.bz_world.specs.declared.answers.Event.TheVariants as event
use Rattle.bz_world.specs.declared.answers.LimitKind.TheVariants as which
use Rattle.bz_sched.specs.Points.{actor, fences_of, IsUpToOneEffect, TakesStep}
use Rattle.bz_sched.specs.Fuses.{lets, burnt, Fused}
use Rattle.bz_sched.specs.Runs.{point_in, IsReady, IsAtLimit, IsStopped, Keeps}
use Rattle.bz_sched.specs.TurnsInPart.{StopsStep}
use Rattle.bz_sched.specs.declared.turn.Stop.TheVariants.{Due, Limit}
use Rattle.bz_sched.proofs.BurnLemmas.{burns_act}
use Rattle.bz_sched.proofs.PowerLemmas.{act_power, struck_power, act_fences, struck_fences, one_fence}
use Rattle.bz_sched.proofs.ReadyLemmas.{keeps_none, changes_no}

-- an act, and what follows it at once
pub record Strikes (first : Mark) (past struck : List Mark) : Type 0 where
  pub effect : List Mark
  pub is : struck ≡ effect ++ first ∷ past
  pub one_effect : IsUpToOneEffect effect
  pub opens : (v : ℕ) → is_some (open_call v struck) ≡ is_some (open_call v (first ∷ past))

pub struck_is : (first : Mark) (past struck : List Mark) → IsStruck (first ∷ past) struck → Strikes first past struck
struck_is first past struck (inl same) = record { effect = []; is = same; one_effect = tt; opens = λ v. rw same refl }
struck_is first past struck (inr (w, (n, is))) = record {
  effect = mark.Effect w n ∷ [];
  is = is;
  one_effect = tt;
  opens = λ v. rw is (changes_no (w == v) _ (open_call v (first ∷ past)));
}

act_own : (made : Act) (w : ℕ) → actor (mark_of w made) ≡ Some w
act_own (act.Load a x) w = refl
act_own (act.Store a x) w = refl
act_own (act.Cas a old new found) w = refl
act_own (act.Ask line) w = refl
act_own act.Fence w = refl

-- what a step of a worker that has an open call answers
abbrev by_step : Bool → Bool → Bool → Option Applied
by_step no_worker short idle = if no_worker then Some applied.NoWorker else (if short then Some applied.Limit else (if idle then Some applied.Idle else None))

none_not_some : (opened : Option Open) → is_some opened ≡ true → is_none opened ≡ false
none_not_some None is = absurd cc
none_not_some (Some opened) is = refl

refusal_is : (lab : WorldView) (w : ℕ) → IsReady lab → IsWorker lab.config w → is_some (open_call w lab.log.past) ≡ true → step_refusal lab w ≡ by_step false (is_short lab.log) false
refusal_is lab w ready worker is =
    let in_range : nat_lt lab.config.workers w ≡ false = grind (arith, nat_tests, worker.in_range) in
    let busy : is_none (open_call w lab.log.past) ≡ false = none_not_some (open_call w lab.log.past) is in
    rw (in_range, ready.powered, busy) refl

-- the answer is one of two
pub record Goes (old : WorldView) (w : ℕ) (answer : Applied) (new : WorldView) : Type 0 where
  pub room : is_short old.log ≡ false
  pub steps : Steps old w answer new

pub record Refused (old : WorldView) (answer : Applied) (new : WorldView) : Type 0 where
  pub short : is_short old.log ≡ true
  pub answered : answer ≡ applied.Limit
  pub same : new ≡ old

step_cases : (short : Bool) (old : WorldView) (w : ℕ) (answer : Applied) (new : WorldView) → is_short old.log ≡ short
    → MatchOption (by_step false short false) (Steps old w answer new) (λ refusal. (answer ≡ refusal) × (new ≡ old))
    → Refused old answer new ⊎ Goes old w answer new
step_cases true old w answer new is (e, same) = inl (record { short = is; answered = e; same = same })
step_cases false old w answer new is h = inr (record { room = is; steps = h })

pub stepped : (old : WorldView) (w : ℕ) (answer : Applied) (new : WorldView) → IsReady old → IsWorker old.config w → is_some (open_call w old.log.past) ≡ true → IsApplied old (event.Step w) answer new
    → Refused old answer new ⊎ Goes old w answer new
stepped old w answer new ready worker is h = step_cases (is_short old.log) old w answer new refl (rw (refusal_is old w ready worker is, ready.powered) at h)

-- nothing else is answered
pub step_answers : (answer : Applied) (log new : Log) (w : ℕ) → GoesOn log w answer new → (answer ≡ applied.Stepped → ⊥) → ((n : ℕ) → answer ≡ applied.Ended n → ⊥) → ⊥
step_answers applied.Stepped log new w g s e = s refl
step_answers (applied.Ended n) log new w g s e = e n refl
step_answers other log new w g s e = absurd g

-- a limit
pub short_stops : (old : WorldView) (queued : Fused) (new : WorldView) → IsReady old → is_short old.log ≡ true → new ≡ old
    → Keeps old queued new queued × ((which.Marks ≡ which.Marks) × (point_in new queued ≡ point_in old queued)) × IsAtLimit new which.Marks
short_stops old queued new ready short same =
    let met : IsAtLimit old which.Marks = grind (arith, nat_tests, short) in
    rw same (keeps_none old queued ready, (refl, refl), met)

pub step_limit : (old : WorldView) (queued : Fused) (w : ℕ) (new : WorldView) → IsReady old → IsWorker old.config w → is_some (open_call w old.log.past) ≡ true → IsApplied old (event.Step w) applied.Limit new
    → Keeps old queued new queued × StopsStep (Limit which.Marks) w (point_in old queued) (point_in new queued) × IsAtLimit new which.Marks
step_limit old queued w new ready worker is h = elim (stepped old w applied.Limit new ready worker is h) [
  | inl r ↦ short_stops old queued new ready r.short r.same
  | inr g ↦ absurd g.steps.ends
]

-- the step is the fence at which the power is cut
pub step_due : (lab : WorldView) (queued : Fused) (w : ℕ) → IsReady lab → (flush_of lab w ≡ true) × (queued.fuse ≡ Some 0)
    → Keeps lab queued lab queued × StopsStep (Due w) w (point_in lab queued) (point_in lab queued) × IsStopped lab queued.fuse (Due w)
step_due lab queued w ready due = (keeps_none lab queued ready, (refl, refl), due)

-- the queue after an act: it has the same calls, and a fence is counted
pub record Burnt (flush : Bool) (queued left : Fused) : Type 0 where
  pub calls : left.calls ≡ queued.calls
  pub room : left.room ≡ queued.room
  pub may : lets queued.fuse flush ≡ true
  pub fuse : left.fuse ≡ burnt flush queued.fuse

-- how many fences were made by then
step_fences : (old : WorldView) (w : ℕ) (made : Act) (struck : List Mark) → is_fence_act made ≡ flush_of old w → IsStruck (mark_of w made ∷ old.log.past) struck → fences_of struck ≡ one_fence (flush_of old w) (fences_of old.log.past)
step_fences old w made struck flush effect = struck_fences (mark_of w made) old.log.past struck effect ∙ act_fences made w old.log.past ∙ ap (λ (b : Bool). one_fence b (fences_of old.log.past)) flush

-- the call goes on
on_ready : (old : WorldView) (w : ℕ) (new : WorldView) → IsReady old → Steps old w applied.Stepped new → IsReady new
on_ready old w new ready s = record {
  workers = rw s.config ready.workers;
  powered = ap (λ (p : Power). power_of p new.log.past) s.at_start ∙ ap (λ (log : Log). power_of old.at_start log.past) s.ends ∙ struck_power old.at_start (mark_of w s.made) old.log.past s.struck s.effect ∙ act_power old.at_start s.made w old.log.past ∙ ready.powered;
}

step_goes_on : (old : WorldView) (queued left : Fused) (w : ℕ) (new : WorldView) → IsReady old → Goes old w applied.Stepped new → Burnt (flush_of old w) queued left
    → Keeps old queued new left × TakesStep w (point_in old queued) (point_in new left)
step_goes_on old queued left w new ready g b =
    let s = g.steps in
    let struck = struck_is (mark_of w s.made) old.log.past s.struck s.effect in (
      record {
        ready = on_ready old w new ready s;
        config = s.config;
        at_start = s.at_start;
        start = ap (λ (log : Log). log.start) s.ends;
        limits = ap (λ (log : Log). log.limits) s.ends;
        room = b.room;
        fuse = burns_act old.log.past new.log.past queued.fuse left.fuse (flush_of old w) b.may (ap (λ (log : Log). fences_of log.past) s.ends ∙ step_fences old w s.made s.struck s.flush s.effect) b.fuse;
      },
      (
        record {
          act = mark_of w s.made;
          effect = struck.effect;
          ending = [];
          is = ap (λ (log : Log). log.past) s.ends ∙ struck.is;
          own = act_own s.made w;
          one_effect = struck.one_effect;
          one_end = tt;
        },
        b.calls,
      ),
    )

-- the call ends
ended_ready : (old : WorldView) (w n : ℕ) (new : WorldView) → IsReady old → Steps old w (applied.Ended n) new → IsReady new
ended_ready old w n new ready s = record {
  workers = rw s.config ready.workers;
  powered = ap (λ (p : Power). power_of p new.log.past) s.at_start ∙ ap (λ (log : Log). power_of old.at_start log.past) s.ends.is ∙ struck_power old.at_start (mark_of w s.made) old.log.past s.struck s.effect ∙ act_power old.at_start s.made w old.log.past ∙ ready.powered;
}

step_ends : (old : WorldView) (queued left : Fused) (w n : ℕ) (new : WorldView) → IsReady old → Goes old w (applied.Ended n) new → Burnt (flush_of old w) queued left
    → Keeps old queued new left × TakesStep w (point_in old queued) (point_in new left)
step_ends old queued left w n new ready g b =
    let s = g.steps in
    let struck = struck_is (mark_of w s.made) old.log.past s.struck s.effect in (
      record {
        ready = ended_ready old w n new ready s;
        config = s.config;
        at_start = s.at_start;
        start = ap (λ (log : Log). log.start) s.ends.is;
        limits = ap (λ (log : Log). log.limits) s.ends.is;
        room = b.room;
        fuse = burns_act old.log.past new.log.past queued.fuse left.fuse (flush_of old w) b.may (ap (λ (log : Log). fences_of log.past) s.ends.is ∙ step_fences old w s.made s.struck s.flush s.effect) b.fuse;
      },
      (
        record {
          act = mark_of w s.made;
          effect = struck.effect;
          ending = mark.End w n s.ends.reply s.ends.at ∷ [];
          is = ap (λ (log : Log). log.past) s.ends.is ∙ ap (λ (past : List Mark). mark.End w n s.ends.reply s.ends.at ∷ past) struck.is;
          own = act_own s.made w;
          one_effect = struck.one_effect;
          one_end = refl;
        },
        b.calls,
      ),
    )

-- one or the other
pub step_made : (old : WorldView) (queued left : Fused) (w : ℕ) (answer : Applied) (new : WorldView) → IsReady old → Goes old w answer new → Burnt (flush_of old w) queued left
    → Keeps old queued new left × TakesStep w (point_in old queued) (point_in new left)
step_made old queued left w applied.Stepped new ready g b = step_goes_on old queued left w new ready g b
step_made old queued left w (applied.Ended n) new ready g b = step_ends old queued left w n new ready g b
step_made old queued left w other new ready g b = absurd g.steps.ends
