use Rattle.std.proofs.Common.{arith}
use Rattle.bz_judge.specs.Inside.Stacks.{visit_of}
use Rattle.bz_judge.proofs.Descending.{descent-begun, reads-way, way-has-children, descent-on, descent-smaller, descent-ends}
use Rattle.bz_judge.proofs.descent.leaf_visit.Goals as goal

pub loop-visit-init : goal.loop-visit-init
loop-visit-init c = descent-begun c.args.config.now c.args.image.now c.args.key.now (visit_of c.in-Some.root) c.requires c.in-Some.ensures.root

pub node_of_slot-node-requires-clause-slot : goal.node_of_slot-node-requires-clause-slot
node_of_slot-node-requires-clause-slot c = c.loop-visit.invariant.below

pub chosen_child-visit-requires-clause-children : goal.chosen_child-visit-requires-clause-children
chosen_child-visit-requires-clause-children c =
    reads-way c.args.config.now c.args.image.now c.args.key.now (visit_of c.loop-visit.visit) c.node_of_slot-node.result.0 c.requires c.loop-visit.invariant c.loop-visit-test.true c.node_of_slot-node.ensures.node c.node_of_slot-node.ensures.whole

pub chosen_child-visit-requires-clause-some : goal.chosen_child-visit-requires-clause-some
chosen_child-visit-requires-clause-some c =
    way-has-children c.args.config.now c.args.image.now c.args.key.now (visit_of c.loop-visit.visit) c.node_of_slot-node.result.0 c.requires c.loop-visit.invariant c.loop-visit-test.true c.node_of_slot-node.ensures.node
    (reads-way c.args.config.now c.args.image.now c.args.key.now (visit_of c.loop-visit.visit) c.node_of_slot-node.result.0 c.requires c.loop-visit.invariant c.loop-visit-test.true c.node_of_slot-node.ensures.node c.node_of_slot-node.ensures.whole)

pub loop-visit-preserved : goal.loop-visit-preserved
loop-visit-preserved c =
    descent-on c.args.config.now c.args.image.now c.args.key.now (visit_of c.loop-visit.visit) (visit_of c.chosen_child-visit.result) c.node_of_slot-node.result.0 c.requires c.loop-visit.invariant c.loop-visit-test.true c.node_of_slot-node.ensures.node c.chosen_child-visit.ensures

pub loop-visit-smaller : goal.loop-visit-smaller
loop-visit-smaller c =
    omega (arith, descent-smaller c.args.config.now c.args.image.now c.args.key.now (visit_of c.loop-visit.visit) (visit_of c.chosen_child-visit.result) c.node_of_slot-node.result.0 c.loop-visit.invariant c.loop-visit-test.true c.node_of_slot-node.ensures.node c.chosen_child-visit.ensures)

pub returns : goal.returns
returns c = descent-ends c.args.config.now c.args.image.now c.args.key.now (visit_of c.loop-visit.visit) c.requires c.loop-visit.invariant (omega (arith, c.loop-visit-test.false))
