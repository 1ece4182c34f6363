use Rattle.std.proofs.Common.{false, sym, ◌∙◌, arith}
use Rattle.std.specs.Prelude.{slice_index}
use Rattle.bz_content.specs.Content.{image_of, view_in}
use Rattle.bz_content.specs.Map.{records_in}
use Rattle.bz_judge.specs.Inside.Stacks.{visit_of, stack_of}
use Rattle.bz_judge.proofs.Steps.{at-place, none-found, shows-node, leaf-step, inner-step, reads-children}
use Rattle.bz_judge.proofs.Walks.{seen-twice, breaks-rule}
use Rattle.bz_judge.proofs.walk.Walk.visit.Goals as goal

pub returns-then-index-clause-told : goal.returns-then-index-clause-told
returns-then-index-clause-told c =
    seen-twice (view_in c.args.config.now (slice_index c.args.image.now)) (records_in c.args.config.now (image_of (slice_index c.args.image.now))) (visit_of c.args.visit.now) (stack_of c.args.self.now.stack.items)
    c.args.self.now.seen.items c.args.self.now.pairs c.args.self.now.reached c.requires.way (at-place c.args.self.now.seen.items c.args.visit.now.slot c.index.result.now false (omega (arith, c.requires.way.size, c.requires.way.below.0)) c.index.ensures ∙ c.if-index.true)

pub returns-in-Some-clause-told : goal.returns-in-Some-clause-told
returns-in-Some-clause-told c =
    breaks-rule (view_in c.args.config.now (slice_index c.args.image.now)) (records_in c.args.config.now (image_of (slice_index c.args.image.now))) (visit_of c.args.visit.now) (stack_of c.args.self.now.stack.items)
    c.args.self.now.seen.items c.args.self.now.pairs c.args.self.now.reached c.in-Some.rule c.requires.way (at-place c.args.self.now.seen.items c.args.visit.now.slot c.index.result.now false (omega (arith, c.requires.way.size, c.requires.way.below.0)) c.index.ensures ∙ c.if-index.false)
    (sym c.in-Some.ensures)

pub returns-then-visit-eq0-clause-way : goal.returns-then-visit-eq0-clause-way
returns-then-visit-eq0-clause-way c =
    leaf-step c.args.config.now c.args.image.now (visit_of c.args.visit.now) (stack_of c.args.self.now.stack.items) c.args.self.now.seen.items c.args.self.now.pairs c.args.self.now.reached c.visible_count.result c.node_of_slot-node.result.0
    c.requires.way (at-place c.args.self.now.seen.items c.args.visit.now.slot c.index.result.now false (omega (arith, c.requires.way.size, c.requires.way.below.0)) c.index.ensures ∙ c.if-index.false)
    c.node_of_slot-node.ensures.node (sym c.fault_of_node.ensures ∙ none-found c.fault_of_node.result c.in_default.not-Some) c.if-visit-eq0.true c.visible_count.ensures.count c.visible_count.ensures.few

pub push_children-requires-clause-children : goal.push_children-requires-clause-children
push_children-requires-clause-children c =
    reads-children c.args.config.now c.args.image.now (visit_of c.args.visit.now) c.node_of_slot-node.result.0 c.requires.scanned c.requires.way.below.0 c.node_of_slot-node.ensures.node c.node_of_slot-node.ensures.whole
    (sym c.fault_of_node.ensures ∙ none-found c.fault_of_node.result c.in_default.not-Some) (omega (arith, c.if-visit-eq0.false))

pub returns-clause-way : goal.returns-clause-way
returns-clause-way c =
    inner-step c.args.config.now c.args.image.now (visit_of c.args.visit.now) (stack_of c.args.self.now.stack.items) (stack_of c.push_children.new.stack.items) c.args.self.now.seen.items c.args.self.now.pairs c.args.self.now.reached
    c.requires.way (at-place c.args.self.now.seen.items c.args.visit.now.slot c.index.result.now false (omega (arith, c.requires.way.size, c.requires.way.below.0)) c.index.ensures ∙ c.if-index.false)
    (sym c.fault_of_node.ensures ∙ none-found c.fault_of_node.result c.in_default.not-Some) (omega (arith, c.if-visit-eq0.false))
    (c.in_ok-push_children.ensures (view_in c.args.config.now (slice_index c.args.image.now)) (shows-node c.args.config.now c.args.image.now c.args.visit.now.slot c.node_of_slot-node.result.0 c.requires.way.below.0 c.node_of_slot-node.ensures.node))
