use Rattle.bz_qsched.specs.Runs.{marks_left}
use Rattle.bz_qsched.specs.Fuses.{with_fuse}
use Rattle.bz_qsched.proofs.WordLemmas.{TakingSome}
use Rattle.bz_qsched.proofs.alone.end_worker.Given as goal

abbrev pub invariant-loop-world : goal.invariant-loop-world
invariant-loop-world l =
    TakingSome l.w l.initial.world (with_fuse l.initial.queue l.initial.fuse) l.world (with_fuse l.queue l.fuse)

abbrev pub decreases-loop-world : goal.decreases-loop-world
decreases-loop-world l = marks_left l.world
