use Rattle.std.proofs.Common.{◌+◌, subst, arith}
use Rattle.bz_judge.specs.Inside.Stacks.{visit_of, stack_of}
use Rattle.bz_judge.specs.Inside.Walking.{IsOnWay}
use Rattle.bz_judge.proofs.Begun.{before, ended}
use Rattle.bz_judge.proofs.Children.{stack-none, stack-pop}
use Rattle.bz_judge.proofs.walk.walk_tree.Goals as goal

pub loop-visit-init : goal.loop-visit-init
loop-visit-init c = before c.args.config.now c.args.image.now (visit_of c.in-Some.root) c.in_ok-walk.walk c.in-Some.ensures.root c.in_ok-walk.ensures

pub visit-requires-clause-way : goal.visit-requires-clause-way
visit-requires-clause-way c =
    subst (λ s. IsOnWay c.args.config.now c.args.image.now s c.loop-visit.walk.seen.items c.loop-visit.walk.pairs c.loop-visit.walk.reached)
    (stack-pop c.loop-visit.walk.stack.items c.pop.new.self.items c.in-Some-pop.visit c.in-Some-pop.ensures.items) c.loop-visit.invariant

pub returns-clause-shape : goal.returns-clause-shape
returns-clause-shape c =
    ended c.args.config.now c.args.image.now (stack_of c.loop-visit.walk.stack.items) c.loop-visit.walk.seen.items c.loop-visit.walk.pairs c.loop-visit.walk.reached (c.in-Some.root.place.level + 1)
    c.loop-visit.invariant (stack-none c.loop-visit.walk.stack.items (omega (arith, c.in_default.ensures.cases))) c.in-Some.ensures.root.level
