-- A turn: its call begins, if it has to, and then the step is taken.
use Rattle.std.proofs.Common.{◌≡◌, ℕ, true, sym, subst, ◌∙◌, inr}
use Rattle.bz_queue.specs.QueueView.{QueueView}
use Rattle.bz_queue.specs.declared.answers.QLimit.{QLimit}
use Rattle.bz_qsched.specs.declared.turn.Stop.{Stop}
use Rattle.bz_qsched.specs.declared.turn.Stop.TheVariants.{Due, Limit}
use Rattle.bz_qsched.specs.Points.{Point, is_busy, GetsReady, TakesStep, IsTurn}
use Rattle.bz_qsched.specs.Fuses.{Fused}
use Rattle.bz_qsched.specs.Runs.{point_in, IsStopped, Keeps, EndsBy}
use Rattle.bz_qsched.specs.TurnsInPart.{StopsStep, StopsBy, StopsTurn}
use Rattle.bz_qsched.specs.declared.turn.Turned.{Turned}
use Rattle.bz_qsched.specs.declared.turn.Turned.TheVariants.{Finished, Stopped}
use Rattle.bz_qsched.proofs.ReadyLemmas.{keeps_both}

-- no call could begin
pub turn_stops : (old : QueueView) (queued : Fused) (w : ℕ) (why : Stop) (new : QueueView) (left : Fused) → is_busy w (point_in old queued) ≡ true
    → Keeps old queued new left × StopsBy why w (point_in old queued) (point_in new left) × IsStopped new left.fuse why
    → Keeps old queued new left × StopsTurn why w (point_in old queued) (point_in new left) × IsStopped new left.fuse why
turn_stops old queued w why new left works (keeps, stops, met) = (keeps, (works, stops), met)

-- the step stops, after the worker got ready for it
step_stops : (w : ℕ) (why : Stop) (old mid new : Point) → GetsReady w old mid → StopsStep why w mid new → StopsBy why w old new
step_stops w (Limit limit) old mid new readied (is, same) = subst (λ (limited : QLimit). StopsBy (Limit limited) w old new) (sym is) (inr (same ∙ readied))
step_stops w (Due v) old mid new readied (is, same) = (is, same ∙ readied)

-- a call is open, and the step is taken or stops
pub turn_ends : (old : QueueView) (queued : Fused) (w : ℕ) (mid : QueueView) (between : Fused) (end : Turned) (new : QueueView) (left : Fused) → is_busy w (point_in old queued) ≡ true
    → Keeps old queued mid between × GetsReady w (point_in old queued) (point_in mid between) → EndsBy (TakesStep w) (λ why. StopsStep why w) mid between end new left
    → EndsBy (IsTurn w) (λ why. StopsTurn why w) old queued end new left
turn_ends old queued w mid between Finished new left works (keeps, readied) (kept, step) = (
  keeps_both old mid new queued between left keeps kept,
  record { busy = works; step = subst (λ (point : Point). TakesStep w point (point_in new left)) readied step },
)
turn_ends old queued w mid between (Stopped why) new left works (keeps, readied) (kept, stops, met) = (
  keeps_both old mid new queued between left keeps kept,
  (works, step_stops w why (point_in old queued) (point_in mid between) (point_in new left) readied stops),
  met,
)
