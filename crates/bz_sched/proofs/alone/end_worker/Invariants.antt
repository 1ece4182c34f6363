use Rattle.bz_sched.specs.Enough.{Bounds, GoesOnAlone, IsBetweenCalls}
use Rattle.bz_sched.specs.Runs.{marks_left}
use Rattle.bz_sched.specs.Fuses.{with_fuse}
use Rattle.bz_sched.proofs.WordLemmas.{TakingSome}
use Rattle.bz_sched.proofs.alone.end_worker.Given as goal

abbrev pub invariant-loop-world : goal.invariant-loop-world
invariant-loop-world l =
    TakingSome l.w l.initial.world (with_fuse l.initial.queue l.initial.fuse) l.world (with_fuse l.queue l.fuse)
    × ((most : Bounds) → IsBetweenCalls most l.initial.world l.initial.queue.calls l.initial.fuse → GoesOnAlone most l.w l.world l.queue.calls l.fuse)

abbrev pub decreases-loop-world : goal.decreases-loop-world
decreases-loop-world l = marks_left l.world
