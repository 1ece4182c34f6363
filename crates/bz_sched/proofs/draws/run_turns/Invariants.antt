use Rattle.std.proofs.Common.{◌≡◌}
use Rattle.bz_layout.specs.Addresses.{words_of}
use Rattle.bz_sched.specs.Fuses.{with_fuse}
use Rattle.bz_sched.specs.Runs.{point_of, marks_left}
use Rattle.bz_sched.specs.Turns.{busy_workers}
use Rattle.bz_sched.proofs.DrawLemmas.{Drawing}
use Rattle.bz_sched.proofs.draws.run_turns.Given as goal

abbrev pub invariant-loop-busy : goal.invariant-loop-busy
invariant-loop-busy l = record {
  drawing : Drawing (words_of l.initial.world.config) l.seed l.state l.initial.world (with_fuse l.initial.queue l.initial.fuse) l.world (with_fuse l.queue l.fuse);
  listed : l.busy.items ≡ busy_workers (point_of l.world l.queue);
}

abbrev pub decreases-loop-busy : goal.decreases-loop-busy
decreases-loop-busy l = marks_left l.world
