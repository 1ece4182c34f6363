use Rattle.std.proofs.Common.{ap, arith}
use Rattle.std.specs.Prelude.{slice_index}
use Rattle.std.proofs.lemmas.Result.{on_ok_weaker}
use Rattle.bz_content.specs.Content.{view_in}
use Rattle.bz_judge.specs.Inside.Stacks.{visit_of, stack_of}
use Rattle.bz_judge.proofs.Gathered.{reads-leaf, leaf-passed, leaf-further, reads-inner, inner-passed, inner-further}
use Rattle.bz_judge.proofs.Steps.{shows-node}
use Rattle.bz_judge.proofs.gathering.Gathering.visit.Goals as goal

pub take_leaf-requires : goal.take_leaf-requires
take_leaf-requires c =
    (reads-leaf c.args.config.now c.args.image.now (visit_of c.args.visit.now) _ _ c.node_of_slot-node.result.0
    c.requires.image c.requires.way c.node_of_slot-node.ensures.node c.node_of_slot-node.ensures.whole c.if-visit-eq0.true).readable

pub returns-then-visit-eq0-clause-way : goal.returns-then-visit-eq0-clause-way
returns-then-visit-eq0-clause-way c =
    on_ok_weaker c.take_leaf.result
    (leaf-passed c.args.config.now c.args.image.now (visit_of c.args.visit.now) _ _ c.node_of_slot-node.result.0
    c.requires.image c.requires.way c.node_of_slot-node.ensures.node c.node_of_slot-node.ensures.whole c.if-visit-eq0.true _ _ (ap (λ s. stack_of s.items) c.take_leaf.ensures.stack))
    c.take_leaf.ensures.pairs

pub returns-then-visit-eq0-clause-further : goal.returns-then-visit-eq0-clause-further
returns-then-visit-eq0-clause-further c =
    on_ok_weaker c.take_leaf.result (λ _. leaf-further c.args.config.now c.args.image.now (visit_of c.args.visit.now) _ c.if-visit-eq0.true _ (ap (λ s. stack_of s.items) c.take_leaf.ensures.stack)) c.take_leaf.ensures.pairs

pub push_children-requires-clause-children : goal.push_children-requires-clause-children
push_children-requires-clause-children c =
    reads-inner c.args.config.now c.args.image.now (visit_of c.args.visit.now) _ _ c.node_of_slot-node.result.0
    c.requires.image c.requires.way c.node_of_slot-node.ensures.node c.node_of_slot-node.ensures.whole (omega (arith, c.if-visit-eq0.false))

pub returns-clause-way : goal.returns-clause-way
returns-clause-way c =
    on_ok_weaker c.push_children.result
    (λ pushed. inner-passed c.args.config.now c.args.image.now (visit_of c.args.visit.now) _ _ c.node_of_slot-node.result.0
    c.requires.image c.requires.way c.node_of_slot-node.ensures.node c.node_of_slot-node.ensures.whole (omega (arith, c.if-visit-eq0.false)) _
    (pushed (view_in c.args.config.now (slice_index c.args.image.now)) (shows-node c.args.config.now c.args.image.now c.args.visit.now.slot c.node_of_slot-node.result.0 c.requires.way.below.0 c.node_of_slot-node.ensures.node)))
    c.push_children.ensures

pub returns-clause-further : goal.returns-clause-further
returns-clause-further c =
    on_ok_weaker c.push_children.result
    (λ pushed. inner-further c.args.config.now c.args.image.now (visit_of c.args.visit.now) _ (omega (arith, c.if-visit-eq0.false)) _
    (pushed (view_in c.args.config.now (slice_index c.args.image.now)) (shows-node c.args.config.now c.args.image.now c.args.visit.now.slot c.node_of_slot-node.result.0 c.requires.way.below.0 c.node_of_slot-node.ensures.node)))
    c.push_children.ensures
