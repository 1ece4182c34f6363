use Rattle.std.proofs.Common.{◌-◌}
use Rattle.bz_judge.specs.Inside.Stacks.{stack_of}
use Rattle.bz_judge.specs.Inside.Walking.{IsOnWay}
use Rattle.bz_judge.proofs.walk.walk_tree.Given as goal

abbrev pub invariant-loop-visit : goal.invariant-loop-visit
invariant-loop-visit l = IsOnWay l.config l.image (stack_of l.walk.stack.items) l.walk.seen.items l.walk.pairs l.walk.reached

abbrev pub decreases-loop-visit : goal.decreases-loop-visit
decreases-loop-visit l = l.config.nodes - l.walk.reached
