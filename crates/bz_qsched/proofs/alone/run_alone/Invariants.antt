use Rattle.bz_qsched.specs.Fuses.{with_fuse}
use Rattle.bz_qsched.proofs.AloneLemmas.{Ending}
use Rattle.bz_qsched.proofs.alone.run_alone.Given as goal

abbrev pub invariant-loop-w : goal.invariant-loop-w
invariant-loop-w l =
    Ending l.w l.initial.world (with_fuse l.initial.queue l.initial.fuse) l.world (with_fuse l.queue l.fuse)
