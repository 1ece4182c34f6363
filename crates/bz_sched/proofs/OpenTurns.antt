-- Steps of a worker alone, which are turns of it that end its open call.
use Rattle.std.proofs.Common.{◌≡◌, ◌≢◌, ℕ, zero, suc, ◌==◌, Bool, true, false, List, [], ◌∷◌, refl, ap, subst, ◌∙◌, arith, inl, inr, Option, Some, None}
use Rattle.std.specs.Prelude.{if◌then◌else◌, is_some}
use Rattle.std.proofs.lemmas.Bool.Decides.{nat_tests}
use Rattle.bz_swap_acts.specs.declared.acted.Act.{Act}
use Rattle.bz_swap_acts.specs.declared.acted.Act.TheVariants as act
use Rattle.bz_call.specs.declared.calls.Call.{Call}
use Rattle.bz_mark.specs.Log.{Log}
use Rattle.bz_mark.specs.declared.marks.Mark.{Mark}
use Rattle.bz_sound.specs.Calls.{Open, open_call}
use Rattle.bz_world.specs.Solo.{StepsOn, MayStep, RunsSolo}
use Rattle.bz_world.specs.WorldView.{WorldView, flush_of, mark_of, Steps}
use Rattle.bz_world.specs.declared.answers.Applied.{Applied}
use Rattle.bz_world.specs.declared.answers.Applied.TheVariants as applied
use Rattle.bz_world.specs.declared.answers.LimitKind.TheVariants as which
use Rattle.bz_sched.specs.Fuses.{Fused}
use Rattle.bz_sched.specs.OpenCalls.{EndsCall, EndsCallInPart}
use Rattle.bz_sched.specs.Points.{Point, is_busy, TakesStep, IsTurn}
use Rattle.bz_sched.specs.Queued.{calls_of, is_busy_by}
use Rattle.bz_sched.specs.Runs.{point_with, IsOneOfAll, IsReady, Stays, EndsOpenBy}
use Rattle.bz_sched.specs.declared.turn.Stop.{Stop}
use Rattle.bz_sched.specs.declared.turn.Stop.TheVariants.{Limit}
use Rattle.bz_sched.proofs.ReadyLemmas.{is_worker, open_is_ready}
use Rattle.bz_sched.proofs.StepLemmas.{Goes, Burnt, stepped, struck_is, step_made, short_stops}
use Rattle.bz_sched.proofs.WakeLemmas.{stays_both}

-- nothing was changed
pub no_change : (world : WorldView) → Stays world world
no_change world = record { config = refl; at_start = refl; start = refl; limits = refl }

no_open : (opened : Option Open) → is_some opened ≡ false → opened ≡ None
no_open None is = refl
no_open (Some opened) is = absurd (cc is)

some_open : (opened : Option Open) → is_some opened ≡ true → opened ≢ None
some_open None is none = absurd (cc is)
some_open (Some opened) is none = absurd (cc none)

-- no cut is armed
abbrev unarmed : List (ℕ × Call) → Fused
unarmed calls = record { calls = calls; room = 0; fuse = None }

burns_no : (flush : Bool) (calls : List (ℕ × Call)) → Burnt flush (unarmed calls) (unarmed calls)
burns_no true calls = record { calls = refl; room = refl; may = refl; fuse = refl }
burns_no false calls = record { calls = refl; room = refl; may = refl; fuse = refl }

-- a worker whose call is open is busy, and ready for its step
busy_open : (w : ℕ) (lab : WorldView) (calls : List (ℕ × Call)) → is_some (open_call w lab.log.past) ≡ true → is_busy w (point_with lab calls) ≡ true
busy_open w lab calls is_open = ap (λ (b : Bool). is_busy_by b (calls_of w calls)) is_open

turn_of : (w : ℕ) (old new : WorldView) (calls : List (ℕ × Call)) → is_some (open_call w old.log.past) ≡ true → TakesStep w (point_with old calls) (point_with new calls) → IsTurn w (point_with old calls) (point_with new calls)
turn_of w old new calls is_open step = record {
  busy = busy_open w old calls is_open;
  step = subst (λ (point : Point). TakesStep w point (point_with new calls)) (open_is_ready old (unarmed calls) w is_open) step;
}

-- its step is a turn, whatever calls wait
record Turns (w : ℕ) (old new : WorldView) : Type 0 where
  stays : Stays old new
  ready : IsReady new
  turn : (calls : List (ℕ × Call)) → IsTurn w (point_with old calls) (point_with new calls)

turns : (w : ℕ) (old new : WorldView) (answer : Applied) → IsReady old → is_some (open_call w old.log.past) ≡ true → Goes old w answer new → Turns w old new
turns w old new answer ready is_open goes =
    let made = step_made old (unarmed []) (unarmed []) w answer new ready goes (burns_no (flush_of old w) []) in
    record {
      stays = record { config = made.0.config; at_start = made.0.at_start; start = made.0.start; limits = made.0.limits };
      ready = made.0.ready;
      turn = λ calls. turn_of w old new calls is_open (step_made old (unarmed calls) (unarmed calls) w answer new ready goes (burns_no (flush_of old w) calls)).1;
    }

-- the call is still open where it goes on, and not where it has ended
act_opens : (made : Act) (w v : ℕ) (past : List Mark) → open_call v (mark_of w made ∷ past) ≡ open_call v past
act_opens (act.Load a x) w v past = refl
act_opens (act.Store a x) w v past = refl
act_opens (act.Cas a old new found) w v past = refl
act_opens (act.Ask line) w v past = refl
act_opens act.Fence w v past = refl

still_open : (w : ℕ) (old new : WorldView) → is_some (open_call w old.log.past) ≡ true → Steps old w applied.Stepped new → is_some (open_call w new.log.past) ≡ true
still_open w old new is_open s =
    ap (λ (log : Log). is_some (open_call w log.past)) s.ends ∙ (struck_is (mark_of w s.made) old.log.past s.struck s.effect).opens w
    ∙ ap (λ (opened : Option Open). is_some opened) (act_opens s.made w w old.log.past) ∙ is_open

now_closed : (w n : ℕ) (old new : WorldView) → Steps old w (applied.Ended n) new → open_call w new.log.past ≡ None
now_closed w n old new s =
    let same : (w == w) ≡ true = grind (arith, nat_tests) in
    ap (λ (log : Log). open_call w log.past) s.ends.is ∙ ap (λ (b : Bool). if b then None else open_call w s.struck) same

-- steps of a worker were made, and its call was open before and after each: what follows them follows from the start
record GoneOn (w : ℕ) (old world : WorldView) : Type 0 where
  stays : Stays old world
  ready : IsReady world
  is_open : is_some (open_call w world.log.past) ≡ true
  whole : (calls : List (ℕ × Call)) (new : Point) → EndsCall w (point_with world calls) new → EndsCall w (point_with old calls) new
  part : (why : Stop) (calls : List (ℕ × Call)) (new : Point) → EndsCallInPart why w (point_with world calls) new → EndsCallInPart why w (point_with old calls) new

still_there : (w : ℕ) (old : WorldView) → IsReady old → is_some (open_call w old.log.past) ≡ true → GoneOn w old old
still_there w old ready is_open = record { stays = no_change old; ready = ready; is_open = is_open; whole = λ calls new ends. ends; part = λ why calls new ends. ends }

one_more : (w : ℕ) (old world new : WorldView) → GoneOn w old world → Goes world w applied.Stepped new → GoneOn w old new
one_more w old world new e goes =
    let t = turns w world new applied.Stepped e.ready e.is_open goes in
    record {
      stays = stays_both old world new e.stays t.stays;
      ready = t.ready;
      is_open = still_open w world new e.is_open goes.steps;
      whole = λ calls end ends. e.whole calls end (suc ends.0, (e.is_open, (point_with new calls, t.turn calls, ends.1)));
      part = λ why calls end ends. e.part why calls end (suc ends.0, (e.is_open, (point_with new calls, t.turn calls, ends.1)));
    }

gone_on : (w count : ℕ) (old new : WorldView) → IsOneOfAll w → IsReady old → is_some (open_call w old.log.past) ≡ true → StepsOn count old w new → GoneOn w old new
gone_on w zero old new one ready is_open same = rw same (still_there w old ready is_open)
gone_on w (suc count) old new one ready is_open (mid, (steps, last)) =
    let e = gone_on w count old mid one ready is_open steps in
    elim (stepped mid w applied.Stepped new e.ready (is_worker mid w e.ready one) e.is_open last) [
      | inl refused ↦ let other = refused.answered in absurd (cc)
      | inr goes ↦ one_more w old mid new e goes
    ]

-- no call of the worker is open
pub call_closed : (w : ℕ) (old : WorldView) → IsReady old → is_some (open_call w old.log.past) ≡ false → EndsOpenBy (EndsCall w) (λ why. EndsCallInPart why w) old None old
call_closed w old ready none = (no_change old, ready, λ calls. (0, (no_open (open_call w old.log.past) none, refl)))

-- it steps alone until its call has ended, or a limit is met
module _ (w : ℕ) (old : WorldView) (one : IsOneOfAll w) (ready : IsReady old) (is_open : is_some (open_call w old.log.past) ≡ true) where
  pub call_ends : (n : ℕ) (new : WorldView) → RunsSolo old w (applied.Ended n) new → EndsOpenBy (EndsCall w) (λ why. EndsCallInPart why w) old None new
  call_ends n new runs =
      let last = runs.last in
      let e = gone_on w runs.steps old last one ready is_open runs.stepped in
      elim (stepped last w (applied.Ended n) new e.ready (is_worker last w e.ready one) e.is_open runs.answered) [
        | inl refused ↦ let other = refused.answered in absurd (cc)
        | inr goes ↦
            let t = turns w last new (applied.Ended n) e.ready e.is_open goes in
            (stays_both old last new e.stays t.stays, t.ready, λ calls. e.whole calls (point_with new calls) (1, (e.is_open, (point_with new calls, t.turn calls, (now_closed w n last new goes.steps, refl)))))
      ]

  pub call_stops : (new : WorldView) → RunsSolo old w applied.Limit new → EndsOpenBy (EndsCall w) (λ why. EndsCallInPart why w) old (Some which.Marks) new
  call_stops new runs =
      let last = runs.last in
      let e = gone_on w runs.steps old last one ready is_open runs.stepped in
      elim (stepped last w applied.Limit new e.ready (is_worker last w e.ready one) e.is_open runs.answered) [
        | inl refused ↦ (
          rw refused.same e.stays,
          (λ calls. e.part (Limit which.Marks) calls (point_with new calls) (0, (e.is_open, (busy_open w last calls e.is_open, inl (ap (λ (lab : WorldView). point_with lab calls) refused.same))))),
          (short_stops last (unarmed []) new e.ready refused.short refused.same).2,
        )
        | inr goes ↦ absurd goes.steps.ends
      ]

  -- nothing else is answered
  pub call_answers : (answer : Applied) (new : WorldView) → RunsSolo old w answer new → ((n : ℕ) → answer ≡ applied.Ended n → ⊥) → (answer ≡ applied.Limit → ⊥) → ⊥
  call_answers answer new runs not_ended not_limit =
      let may : MayStep old w = record { on = ready.powered; within = (is_worker old w ready one).in_range; is_open = some_open (open_call w old.log.past) is_open } in
      elim (runs.ends may).answered [
        | inl (n, is) ↦ not_ended n is
        | inr (is, short) ↦ not_limit is
      ]
