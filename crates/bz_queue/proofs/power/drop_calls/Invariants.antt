use Rattle.std.proofs.Common.{◌≡◌, ℕ, ◌-◌, ◌<◌, length, None}
use Rattle.std.specs.Prelude.{get_or}
use Rattle.bz_queue.proofs.power.drop_calls.Given as goal

abbrev pub invariant-loop-w : goal.invariant-loop-w
invariant-loop-w l = (length l.workers.items ≡ length l.fn.workers.items) × ((k : ℕ) → k < l.w → get_or l.workers.items k None ≡ None)

abbrev pub decreases-loop-w : goal.decreases-loop-w
decreases-loop-w l = length l.workers.items - l.w
