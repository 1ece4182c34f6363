-- Steps of a worker's open call.
use Rattle.std.proofs.Common.{◌≡◌, ◌⊎◌, inl, inr, ℕ, Bool, true, false, List, [], ◌∷◌, ◌++◌, refl, ap, ◌∙◌, arith, Option, Some, None, ◌==◌, nat_lt}
use Rattle.std.specs.Prelude.{is_none, is_some, if◌then◌else◌, MatchOption}
use Rattle.std.proofs.lemmas.Bool.Decides.{nat_tests}
use Rattle.bz_swap_acts.specs.Rule.{is_fence_act}
use Rattle.bz_swap_acts.specs.declared.acted.Act.{Act}
use Rattle.bz_swap_acts.specs.declared.acted.Act.TheVariants as act
use Rattle.bz_swap_marks.specs.Marks.{mark_of}
use Rattle.bz_ring.specs.declared.marks.QMark.{QMark}
use Rattle.bz_ring.specs.declared.marks.QMark.TheVariants as mark
use Rattle.bz_ring.specs.declared.marks.QMark.TheVariants.{Memory}
use Rattle.bz_ring.specs.Calls.{Open, open_call}
use Rattle.bz_ring.specs.Follows.{power_after}
use Rattle.bz_queue.specs.QueueView.{QueueView, flush_of, is_short, step_refusal, IsStruck, GoesOn, Steps, IsApplied}
use Rattle.bz_queue.specs.declared.answers.QApplied.{QApplied}
use Rattle.bz_queue.specs.declared.answers.QApplied.TheVariants as applied
use Rattle.bz_queue.specs.declared.answers.QEvent.TheVariants as event
use Rattle.bz_queue.specs.declared.answers.QLimit.TheVariants as which
use Rattle.bz_qsched.specs.Points.{actor, fences_of, IsUpToOneEffect, TakesStep}
use Rattle.bz_qsched.specs.Fuses.{lets, burnt, Fused}
use Rattle.bz_qsched.specs.Runs.{point_in, IsReady, IsAtLimit, IsStopped, Keeps}
use Rattle.bz_qsched.specs.TurnsInPart.{StopsStep}
use Rattle.bz_qsched.specs.declared.turn.Stop.TheVariants.{Due, Limit}
use Rattle.bz_qsched.proofs.BurnLemmas.{burns_act}
use Rattle.bz_qsched.proofs.PowerLemmas.{act_power, struck_power, act_fences, struck_fences, one_fence}
use Rattle.bz_qsched.proofs.ReadyLemmas.{IsWorker, keeps_none, changes_no}

-- an act, and what follows it at once
pub record Strikes (first : QMark) (past struck : List QMark) : Type 0 where
  pub effect : List QMark
  pub is : struck ≡ effect ++ first ∷ past
  pub one_effect : IsUpToOneEffect effect
  pub opens : (v : ℕ) → is_some (open_call v struck) ≡ is_some (open_call v (first ∷ past))

pub struck_is : (first : QMark) (past struck : List QMark) → IsStruck (first ∷ past) struck → Strikes first past struck
struck_is first past struck (inl same) = record { effect = []; is = same; one_effect = tt; opens = λ v. rw same refl }
struck_is first past struck (inr (w, (n, is))) = record {
  effect = mark.Effect w n ∷ [];
  is = is;
  one_effect = tt;
  opens = λ v. rw is (changes_no (w == v) _ (open_call v (first ∷ past)));
}

act_own : (made : Act) (w : ℕ) → actor (Memory (mark_of w made)) ≡ Some w
act_own (act.Load a x) w = refl
act_own (act.Store a x) w = refl
act_own (act.Cas a old new found) w = refl
act_own (act.Ask line) w = refl
act_own act.Fence w = refl

-- what a step of a worker that has an open call answers
abbrev by_step : Bool → Bool → Bool → Option QApplied
by_step no_worker short idle = if no_worker then Some applied.NoWorker else (if short then Some applied.Limit else (if idle then Some applied.Idle else None))

none_not_some : (opened : Option Open) → is_some opened ≡ true → is_none opened ≡ false
none_not_some None is = absurd cc
none_not_some (Some opened) is = refl

refusal_is : (lab : QueueView) (w : ℕ) → IsReady lab → IsWorker lab.numbers w → is_some (open_call w lab.log.past) ≡ true → step_refusal lab w ≡ by_step false (is_short lab.log) false
refusal_is lab w ready worker is =
    let in_range : nat_lt lab.numbers.workers w ≡ false = grind (arith, nat_tests, worker.in_range) in
    let busy : is_none (open_call w lab.log.past) ≡ false = none_not_some (open_call w lab.log.past) is in
    rw (in_range, ready.powered, busy) refl

-- the answer is one of two
pub record Goes (old : QueueView) (w : ℕ) (answer : QApplied) (new : QueueView) : Type 0 where
  pub room : is_short old.log ≡ false
  pub steps : Steps old w answer new

pub record Refused (old : QueueView) (answer : QApplied) (new : QueueView) : Type 0 where
  pub short : is_short old.log ≡ true
  pub answered : answer ≡ applied.Limit
  pub same : new ≡ old

step_cases : (short : Bool) (old : QueueView) (w : ℕ) (answer : QApplied) (new : QueueView) → is_short old.log ≡ short
    → MatchOption (by_step false short false) (Steps old w answer new) (λ refusal. (answer ≡ refusal) × (new ≡ old))
    → Refused old answer new ⊎ Goes old w answer new
step_cases true old w answer new is (e, same) = inl (record { short = is; answered = e; same = same })
step_cases false old w answer new is h = inr (record { room = is; steps = h })

pub stepped : (old : QueueView) (w : ℕ) (answer : QApplied) (new : QueueView) → IsReady old → IsWorker old.numbers w → is_some (open_call w old.log.past) ≡ true → IsApplied old (event.Step w) answer new
    → Refused old answer new ⊎ Goes old w answer new
stepped old w answer new ready worker is h = step_cases (is_short old.log) old w answer new refl (rw (refusal_is old w ready worker is, ready.powered) at h)

-- nothing else is answered
pub step_answers : (answer : QApplied) (past new : List QMark) (w : ℕ) → GoesOn past w answer new → (answer ≡ applied.Stepped → ⊥) → ((n : ℕ) → answer ≡ applied.Ended n → ⊥) → ⊥
step_answers applied.Stepped past new w g s e = s refl
step_answers (applied.Ended n) past new w g s e = e n refl
step_answers other past new w g s e = absurd g

-- a limit
pub short_stops : (old : QueueView) (queued : Fused) (new : QueueView) → IsReady old → is_short old.log ≡ true → new ≡ old
    → Keeps old queued new queued × ((which.Marks ≡ which.Marks) × (point_in new queued ≡ point_in old queued)) × IsAtLimit new which.Marks
short_stops old queued new ready short same =
    let met : IsAtLimit old which.Marks = grind (arith, nat_tests, short) in
    rw same (keeps_none old queued ready, (refl, refl), met)

pub step_limit : (old : QueueView) (queued : Fused) (w : ℕ) (new : QueueView) → IsReady old → IsWorker old.numbers w → is_some (open_call w old.log.past) ≡ true → IsApplied old (event.Step w) applied.Limit new
    → Keeps old queued new queued × StopsStep (Limit which.Marks) w (point_in old queued) (point_in new queued) × IsAtLimit new which.Marks
step_limit old queued w new ready worker is h = elim (stepped old w applied.Limit new ready worker is h) [
  | inl r ↦ short_stops old queued new ready r.short r.same
  | inr g ↦ absurd g.steps.ends
]

-- the step is the fence at which the power is cut
pub step_due : (lab : QueueView) (queued : Fused) (w : ℕ) → IsReady lab → (flush_of lab w ≡ true) × (queued.fuse ≡ Some 0)
    → Keeps lab queued lab queued × StopsStep (Due w) w (point_in lab queued) (point_in lab queued) × IsStopped lab queued.fuse (Due w)
step_due lab queued w ready due = (keeps_none lab queued ready, (refl, refl), due)

-- the queue after an act: it has the same calls, and a fence is counted
pub record Burnt (flush : Bool) (queued left : Fused) : Type 0 where
  pub calls : left.calls ≡ queued.calls
  pub room : left.room ≡ queued.room
  pub may : lets queued.fuse flush ≡ true
  pub fuse : left.fuse ≡ burnt flush queued.fuse

-- how many fences were made by then
step_fences : (old : QueueView) (w : ℕ) (made : Act) (struck : List QMark) → is_fence_act made ≡ flush_of old w → IsStruck (Memory (mark_of w made) ∷ old.log.past) struck → fences_of struck ≡ one_fence (flush_of old w) (fences_of old.log.past)
step_fences old w made struck flush effect = struck_fences (Memory (mark_of w made)) old.log.past struck effect ∙ act_fences made w old.log.past ∙ ap (λ (b : Bool). one_fence b (fences_of old.log.past)) flush

-- the queue is the same one, and the power stays on
step_ready : (old : QueueView) (w : ℕ) (answer : QApplied) (new : QueueView) → IsReady old → Steps old w answer new → power_after new.log.past ≡ power_after old.log.past → IsReady new
step_ready old w answer new ready s same = record {
  workers = rw (ap (λ (view : QueueView). view.numbers) s.rest) ready.workers;
  powered = same ∙ ready.powered;
}

struck_on : (old : QueueView) (w : ℕ) (made : Act) (struck : List QMark) → IsStruck (Memory (mark_of w made) ∷ old.log.past) struck → power_after struck ≡ power_after old.log.past
struck_on old w made struck effect = struck_power (Memory (mark_of w made)) old.log.past struck effect ∙ act_power made w old.log.past

-- the call goes on
step_goes_on : (old : QueueView) (queued left : Fused) (w : ℕ) (new : QueueView) → IsReady old → Goes old w applied.Stepped new → Burnt (flush_of old w) queued left
    → Keeps old queued new left × TakesStep w (point_in old queued) (point_in new left)
step_goes_on old queued left w new ready g b =
    let s = g.steps in
    let struck = struck_is (Memory (mark_of w s.made)) old.log.past s.struck s.effect in (
      record {
        ready = step_ready old w applied.Stepped new ready s (ap power_after s.ends ∙ struck_on old w s.made s.struck s.effect);
        numbers = ap (λ (view : QueueView). view.numbers) s.rest;
        start = ap (λ (view : QueueView). view.log.start) s.rest;
        most = ap (λ (view : QueueView). view.log.most) s.rest;
        room = b.room;
        fuse = burns_act old.log.past new.log.past queued.fuse left.fuse (flush_of old w) b.may (ap fences_of s.ends ∙ step_fences old w s.made s.struck s.flush s.effect) b.fuse;
      },
      (
        record {
          act = Memory (mark_of w s.made);
          effect = struck.effect;
          ending = [];
          is = s.ends ∙ struck.is;
          own = act_own s.made w;
          one_effect = struck.one_effect;
          one_end = tt;
        },
        b.calls,
      ),
    )

-- the call ends
step_ends : (old : QueueView) (queued left : Fused) (w n : ℕ) (new : QueueView) → IsReady old → Goes old w (applied.Ended n) new → Burnt (flush_of old w) queued left
    → Keeps old queued new left × TakesStep w (point_in old queued) (point_in new left)
step_ends old queued left w n new ready g b =
    let s = g.steps in
    let reply = s.ends.0 in
    let at = s.ends.1.0 in
    let is = s.ends.1.1 in
    let struck = struck_is (Memory (mark_of w s.made)) old.log.past s.struck s.effect in (
      record {
        ready = step_ready old w (applied.Ended n) new ready s (ap power_after is ∙ struck_on old w s.made s.struck s.effect);
        numbers = ap (λ (view : QueueView). view.numbers) s.rest;
        start = ap (λ (view : QueueView). view.log.start) s.rest;
        most = ap (λ (view : QueueView). view.log.most) s.rest;
        room = b.room;
        fuse = burns_act old.log.past new.log.past queued.fuse left.fuse (flush_of old w) b.may (ap fences_of is ∙ step_fences old w s.made s.struck s.flush s.effect) b.fuse;
      },
      (
        record {
          act = Memory (mark_of w s.made);
          effect = struck.effect;
          ending = mark.End w n reply at ∷ [];
          is = is ∙ ap (λ (past : List QMark). mark.End w n reply at ∷ past) struck.is;
          own = act_own s.made w;
          one_effect = struck.one_effect;
          one_end = refl;
        },
        b.calls,
      ),
    )

-- one or the other
pub step_made : (old : QueueView) (queued left : Fused) (w : ℕ) (answer : QApplied) (new : QueueView) → IsReady old → Goes old w answer new → Burnt (flush_of old w) queued left
    → Keeps old queued new left × TakesStep w (point_in old queued) (point_in new left)
step_made old queued left w applied.Stepped new ready g b = step_goes_on old queued left w new ready g b
step_made old queued left w (applied.Ended n) new ready g b = step_ends old queued left w n new ready g b
step_made old queued left w other new ready g b = absurd g.steps.ends
