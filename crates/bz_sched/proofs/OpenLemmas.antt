-- Ending the calls that are open, one worker after the other.
use Rattle.std.proofs.Common.{◌≡◌, ◌≤◌, ◌<◌, ⊎_elim, ℕ, suc, ◌+◌, ◌-◌, List, refl, sym, subst, arith, inl, inr, Some, None}
use Rattle.std.proofs.lemmas.Bool.{cases_lt}
use Rattle.bz_call.specs.declared.calls.Call.{Call}
use Rattle.bz_layout.specs.Config.{IsConfig}
use Rattle.bz_layout.specs.declared.config.Config.{Config}
use Rattle.bz_sound.specs.Calls.{open_call}
use Rattle.bz_world.specs.WorldView.{WorldView, IsWorker}
use Rattle.bz_world.specs.declared.answers.LimitKind.{LimitKind}
use Rattle.bz_sched.specs.OpenCalls.{EndsCall, EndsCallsFrom, EndsCalls, EndsCallInPart, EndsCallsFromInPart, EndsCallsInPart}
use Rattle.bz_sched.specs.Points.{Point}
use Rattle.bz_sched.specs.Queued.{Queued}
use Rattle.bz_sched.specs.Runs.{point_of, point_with, IsReady, Stays, EndsOpenBy, HasEndedCalls}
use Rattle.bz_sched.specs.declared.turn.Stop.{Stop}
use Rattle.bz_sched.specs.declared.turn.Stop.TheVariants.{Limit}
use Rattle.bz_sched.proofs.OpenEnds.{none_open}
use Rattle.bz_sched.proofs.OpenTurns.{no_change}
use Rattle.bz_sched.proofs.WakeLemmas.{stays_both}

-- the workers before this one have no open call: what follows that follows from the start
pub record EndingCalls (w : ℕ) (old world : WorldView) : Type 0 where
  pub stays : Stays old world
  pub ready : IsReady world
  pub whole : (calls : List (ℕ × Call)) (new : Point) → EndsCallsFrom w (65 - w) (point_with world calls) new → EndsCalls (point_with old calls) new
  pub part : (why : Stop) (calls : List (ℕ × Call)) (new : Point) → EndsCallsFromInPart why w (65 - w) (point_with world calls) new → EndsCallsInPart why (point_with old calls) new

pub calls_none : (old : WorldView) → IsReady old → EndingCalls 1 old old
calls_none old ready = record { stays = no_change old; ready = ready; whole = λ calls new ends. ends; part = λ why calls new ends. ends }

pub calls_more : (w : ℕ) (old world new : WorldView) → w < 65 → EndingCalls w old world → EndsOpenBy (EndsCall w) (λ why. EndsCallInPart why w) world None new → EndingCalls (w + 1) old new
calls_more w old world new few e (stays, ready, one) =
    let more : 65 - w ≡ suc (65 - (w + 1)) = omega arith in
    record {
      stays = stays_both old world new e.stays stays;
      ready = ready;
      whole = λ calls end ends. e.whole calls end (subst (λ (count : ℕ). EndsCallsFrom w count (point_with world calls) end) (sym more) (point_with new calls, one calls, ends));
      part = λ why calls end ends. e.part why calls end (subst (λ (count : ℕ). EndsCallsFromInPart why w count (point_with world calls) end) (sym more) (inr (point_with new calls, one calls, ends)));
    }

pub calls_stop : (w : ℕ) (old world : WorldView) (why : LimitKind) (new : WorldView) → w < 65 → EndingCalls w old world → EndsOpenBy (EndsCall w) (λ why. EndsCallInPart why w) world (Some why) new
    → EndsOpenBy EndsCalls EndsCallsInPart old (Some why) new
calls_stop w old world why new few e (stays, one, met) =
    let more : 65 - w ≡ suc (65 - (w + 1)) = omega arith in (
      stays_both old world new e.stays stays,
      (λ calls. e.part (Limit why) calls (point_with new calls) (subst (λ (count : ℕ). EndsCallsFromInPart (Limit why) w count (point_with world calls) (point_with new calls)) (sym more) (inl (one calls)))),
      met,
    )

pub calls_done : (w : ℕ) (old world : WorldView) → 65 ≤ w → EndingCalls w old world → EndsOpenBy EndsCalls EndsCallsInPart old None world
calls_done w old world all e =
    let none : 65 - w ≡ 0 = omega arith in
    (e.stays, e.ready, λ calls. e.whole calls (point_with world calls) (subst (λ (count : ℕ). EndsCallsFrom w count (point_with world calls) (point_with world calls)) (sym none) refl))

-- then no call is open, of a worker from 1 to 64, nor of one that is none
all_closed : (old new : Point) (config : Config) → IsConfig config → ((w : ℕ) → (IsWorker config w → ⊥) → open_call w new.past ≡ None) → EndsCalls old new → (w : ℕ) → open_call w new.past ≡ None
all_closed old new config in_range others ends w =
    let few = in_range.workers_in_range.at_most in
    ⊎_elim
    (λ some. ⊎_elim
    (λ above. others w (λ worker. let most = worker.in_range in absurd (omega arith)))
    (λ most. none_open w old new (omega arith) (omega arith) ends)
    (cases_lt 64 w))
    (λ none. others w (λ worker. let some = worker.some in absurd (omega arith)))
    (cases_lt 0 w)

module _ (old new : WorldView) (queued : Queued) where
  pub ended_whole : IsConfig new.config → ((w : ℕ) → (IsWorker new.config w → ⊥) → open_call w new.log.past ≡ None) → EndsOpenBy EndsCalls EndsCallsInPart old None new → HasEndedCalls old queued None new queued
  ended_whole in_range others (stays, ready, ends) = (
    record { stays = stays; room = omega arith },
    ready.powered,
    all_closed (point_of old queued) (point_of new queued) new.config in_range others (ends queued.calls),
    ends queued.calls,
  )

  pub ended_limit : (why : LimitKind) → EndsOpenBy EndsCalls EndsCallsInPart old (Some why) new → HasEndedCalls old queued (Some why) new queued
  ended_limit why (stays, ends, met) = (stays, ends queued.calls, met)
