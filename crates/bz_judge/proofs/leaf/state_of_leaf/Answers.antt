use Rattle.std.proofs.Common.{◌∙◌}
use Rattle.bz_judge.specs.Inside.Stacks.{visit_of}
use Rattle.bz_judge.proofs.Gathered.{scanned}
use Rattle.bz_judge.proofs.LeafWords.{leaf-reads, leaf-frozen, leaf-live}
use Rattle.bz_judge.proofs.leaf.state_of_leaf.Goals as goal

pub node_of_slot-node-requires-clause-scanned : goal.node_of_slot-node-requires-clause-scanned
node_of_slot-node-requires-clause-scanned c = scanned c.args.config.now c.args.image.now c.requires

pub node_of_slot-node-requires-clause-slot : goal.node_of_slot-node-requires-clause-slot
node_of_slot-node-requires-clause-slot c = c.leaf_visit-visit.ensures.below

pub is_frozen-frozen-requires : goal.is_frozen-frozen-requires
is_frozen-frozen-requires c =
    (leaf-reads c.args.config.now c.args.image.now c.args.key.now (visit_of c.leaf_visit-visit.result) c.node_of_slot-node.result.0 c.leaf_visit-visit.ensures c.node_of_slot-node.ensures.node c.node_of_slot-node.ensures.whole).readable.node.status

pub live_words-live-requires : goal.live_words-live-requires
live_words-live-requires c =
    (leaf-reads c.args.config.now c.args.image.now c.args.key.now (visit_of c.leaf_visit-visit.result) c.node_of_slot-node.result.0 c.leaf_visit-visit.ensures c.node_of_slot-node.ensures.node c.node_of_slot-node.ensures.whole).readable.node

pub returns : goal.returns
returns c = record {
  frozen = c.is_frozen-frozen.ensures
      ∙ leaf-frozen c.args.config.now c.args.image.now c.args.key.now (visit_of c.leaf_visit-visit.result) c.node_of_slot-node.result.0 c.leaf_visit-visit.ensures c.node_of_slot-node.ensures.node;
  live = c.live_words-live.ensures
      ∙ leaf-live c.args.config.now c.args.image.now c.args.key.now (visit_of c.leaf_visit-visit.result) c.node_of_slot-node.result.0 c.leaf_visit-visit.ensures c.node_of_slot-node.ensures.node c.node_of_slot-node.ensures.whole;
}
