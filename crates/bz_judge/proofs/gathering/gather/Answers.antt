use Rattle.std.proofs.Common.{ap, subst, arith}
use Rattle.bz_judge.specs.Inside.Gathers.{IsGathering, to_come}
use Rattle.bz_judge.specs.Inside.Stacks.{visit_of, stack_of}
use Rattle.bz_judge.proofs.Children.{stack-none, stack-pop}
use Rattle.bz_judge.proofs.Gathered.{begun, all-gathered}
use Rattle.bz_judge.proofs.gathering.gather.Goals as goal

pub loop-visit-init : goal.loop-visit-init
loop-visit-init c = begun c.args.config.now c.args.image.now (visit_of c.in-Some.root) _ _ c.in-Some.ensures.root c.in_ok-gathering.ensures.0 c.in_ok-gathering.ensures.1

pub visit-requires-clause-way : goal.visit-requires-clause-way
visit-requires-clause-way c =
    subst (λ s. IsGathering c.args.config.now c.args.image.now s c.loop-visit.gathering.pairs.items)
    (stack-pop c.loop-visit.gathering.stack.items c.pop.new.self.items c.in-Some-pop.visit c.in-Some-pop.ensures.items) c.loop-visit.invariant

pub loop-visit-smaller : goal.loop-visit-smaller
loop-visit-smaller c =
    omega (arith, c.in_ok-visit.ensures.further, ap (to_come c.args.config.now c.args.image.now) (stack-pop c.loop-visit.gathering.stack.items c.pop.new.self.items c.in-Some-pop.visit c.in-Some-pop.ensures.items))

pub returns : goal.returns
returns c =
    all-gathered c.args.config.now c.args.image.now (stack_of c.loop-visit.gathering.stack.items) c.loop-visit.gathering.pairs.items
    c.requires c.loop-visit.invariant (stack-none c.loop-visit.gathering.stack.items (omega (arith, c.in_default.ensures.cases)))
