use Rattle.std.specs.Prelude.{Bool, None}
use Rattle.std.proofs.Common.{drop}
use Rattle.bz_sched.specs.Runs.{point_of}
use Rattle.bz_sched.specs.Sums.{Affords}
use Rattle.bz_top.proofs.FollowLemmas.{Staged}
use Rattle.bz_top.proofs.items.do_items.Given as goal

abbrev pub invariant-loop-item : goal.invariant-loop-item
invariant-loop-item l =
    Staged l.items l.item-index l.armed (point_of l.initial.world l.initial.queue) l.initial.world l.world l.queue
    × ((supplied : Bool) → Affords supplied l.initial.world l.initial.queue.calls None l.items → Affords supplied l.world l.queue.calls l.armed (drop l.item-index l.items))
