use Rattle.std.proofs.Common.{ℕ}
use Rattle.bz_sched.specs.Points.{is_busy}
use Rattle.bz_sched.specs.Runs.{point_of}
use Rattle.bz_sched.proofs.BusyLemmas.{Listed}
use Rattle.bz_sched.proofs.draws.list_busy.Given as goal

abbrev pub invariant-loop-w : goal.invariant-loop-w
invariant-loop-w l = Listed (λ (w : ℕ). is_busy w (point_of l.world l.queue)) l.w l.busy.items
