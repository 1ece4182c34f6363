-- One worker after the other.
use Rattle.std.proofs.Common.{◌≡◌, ◌≤◌, ◌<◌, ℕ, suc, ◌+◌, ◌-◌, refl, sym, subst, arith, inl, inr}
use Rattle.bz_queue.specs.QueueView.{QueueView}
use Rattle.bz_qsched.specs.declared.turn.Stop.{Stop}
use Rattle.bz_qsched.specs.Points.{Point}
use Rattle.bz_qsched.specs.Fuses.{Fused}
use Rattle.bz_qsched.specs.Runs.{point_in, IsReady, IsStopped, Keeps}
use Rattle.bz_qsched.specs.Turns.{EndsOne, EndsFrom, EndsAlone}
use Rattle.bz_qsched.specs.TurnsInPart.{EndsOneInPart, EndsFromInPart, EndsAloneInPart}
use Rattle.bz_qsched.proofs.ReadyLemmas.{keeps_none, keeps_both}

-- the workers before this one have ended: what follows that follows from the start
pub record Ending (w : ℕ) (old : QueueView) (queued : Fused) (world : QueueView) (left : Fused) : Type 0 where
  pub keeps : Keeps old queued world left
  pub whole : (new : Point) → EndsFrom w (65 - w) (point_in world left) new → EndsAlone (point_in old queued) new
  pub part : (why : Stop) (new : Point) → EndsFromInPart why w (65 - w) (point_in world left) new → EndsAloneInPart why (point_in old queued) new

pub ending_none : (old : QueueView) (queued : Fused) → IsReady old → Ending 1 old queued old queued
ending_none old queued ready = record { keeps = keeps_none old queued ready; whole = λ new ends. ends; part = λ why new ends. ends }

pub ending_more : (w : ℕ) (old : QueueView) (queued : Fused) (world : QueueView) (left : Fused) (new : QueueView) (after : Fused) → w < 65 → Ending w old queued world left
    → Keeps world left new after × EndsOne w (point_in world left) (point_in new after) → Ending (w + 1) old queued new after
ending_more w old queued world left new after few e (keeps, one) =
    let more : 65 - w ≡ suc (65 - (w + 1)) = omega arith in
    record {
      keeps = keeps_both old world new queued left after e.keeps keeps;
      whole = λ end ends. e.whole end (subst (λ (count : ℕ). EndsFrom w count (point_in world left) end) (sym more) (point_in new after, one, ends));
      part = λ why end ends. e.part why end (subst (λ (count : ℕ). EndsFromInPart why w count (point_in world left) end) (sym more) (inr (point_in new after, one, ends)));
    }

pub ending_stops : (w : ℕ) (old : QueueView) (queued : Fused) (world : QueueView) (left : Fused) (why : Stop) (new : QueueView) (after : Fused) → w < 65 → Ending w old queued world left
    → Keeps world left new after × EndsOneInPart why w (point_in world left) (point_in new after) × IsStopped new after.fuse why
    → Keeps old queued new after × EndsAloneInPart why (point_in old queued) (point_in new after) × IsStopped new after.fuse why
ending_stops w old queued world left why new after few e (keeps, one, met) =
    let more : 65 - w ≡ suc (65 - (w + 1)) = omega arith in (
      keeps_both old world new queued left after e.keeps keeps,
      e.part why (point_in new after) (subst (λ (count : ℕ). EndsFromInPart why w count (point_in world left) (point_in new after)) (sym more) (inl one)),
      met,
    )

pub ending_done : (w : ℕ) (old : QueueView) (queued : Fused) (world : QueueView) (left : Fused) → 65 ≤ w → Ending w old queued world left
    → Keeps old queued world left × EndsAlone (point_in old queued) (point_in world left)
ending_done w old queued world left all e =
    let none : 65 - w ≡ 0 = omega arith in
    (e.keeps, e.whole (point_in world left) (subst (λ (count : ℕ). EndsFrom w count (point_in world left) (point_in world left)) (sym none) refl))
