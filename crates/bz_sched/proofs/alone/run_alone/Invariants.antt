use Rattle.bz_sched.specs.Enough.{Bounds, IsBetweenCalls}
use Rattle.bz_sched.specs.Fuses.{with_fuse}
use Rattle.bz_sched.proofs.AloneLemmas.{Ending}
use Rattle.bz_sched.proofs.alone.run_alone.Given as goal

abbrev pub invariant-loop-w : goal.invariant-loop-w
invariant-loop-w l =
    Ending l.w l.initial.world (with_fuse l.initial.queue l.initial.fuse) l.world (with_fuse l.queue l.fuse)
    × ((most : Bounds) → IsBetweenCalls most l.initial.world l.initial.queue.calls l.initial.fuse → IsBetweenCalls most l.world l.queue.calls l.fuse)
