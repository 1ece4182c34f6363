use Rattle.bz_judge.specs.Inside.Gathers.{IsGathering, to_come}
use Rattle.bz_judge.specs.Inside.Stacks.{stack_of}
use Rattle.bz_judge.proofs.gathering.gather.Given as goal

abbrev pub invariant-loop-visit : goal.invariant-loop-visit
invariant-loop-visit l = IsGathering l.config l.image (stack_of l.gathering.stack.items) l.gathering.pairs.items

abbrev pub decreases-loop-visit : goal.decreases-loop-visit
decreases-loop-visit l = to_come l.config l.image (stack_of l.gathering.stack.items)
