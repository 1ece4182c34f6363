use Rattle.bz_qsched.specs.Runs.{point_of}
use Rattle.bz_qsched.proofs.FollowLemmas.{Staged}
use Rattle.bz_qsched.proofs.items.run_items.Given as goal

abbrev pub invariant-loop-item : goal.invariant-loop-item
invariant-loop-item l = Staged l.items l.item-index l.armed (point_of l.initial.world l.initial.queue) l.initial.world l.world l.queue
