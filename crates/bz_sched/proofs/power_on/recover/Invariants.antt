use Rattle.std.specs.Prelude.{◌≡◌}
use Rattle.bz_world.specs.WorldView.{recovery_acts}
use Rattle.bz_sched.specs.Enough.{IsFewSoFar}
use Rattle.bz_sched.proofs.RecoveryLemmas.{Waking}
use Rattle.bz_sched.specs.Runs.{marks_left}
use Rattle.bz_sched.proofs.power_on.recover.Given as goal

abbrev pub invariant-loop-world : goal.invariant-loop-world
invariant-loop-world l = Waking l.initial.world l.initial.fuse l.world l.fuse × (recovery_acts l.initial.world ≡ 0 → IsFewSoFar l.initial.world l.world)

abbrev pub decreases-loop-world : goal.decreases-loop-world
decreases-loop-world l = marks_left l.world
