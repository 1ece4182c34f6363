use Rattle.bz_qsched.proofs.RecoveryLemmas.{Waking}
use Rattle.bz_qsched.specs.Runs.{marks_left}
use Rattle.bz_qsched.proofs.power_on.recover.Given as goal

abbrev pub invariant-loop-end : goal.invariant-loop-end
invariant-loop-end l = Waking l.initial.world l.initial.fuse l.world l.fuse

abbrev pub decreases-loop-end : goal.decreases-loop-end
decreases-loop-end l = marks_left l.world
