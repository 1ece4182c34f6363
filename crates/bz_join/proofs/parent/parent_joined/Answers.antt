use Rattle.bz_slotted.proofs.Proved.{high_fences_are_read}
use Rattle.bz_join.proofs.MadeParents.{is, within, high-fence, list, inner, levels, made}
use Rattle.bz_join.proofs.parent.parent_joined.Goals as goal

pub high-requires : goal.high-requires
high-requires c = high-fence c.args.old.now.0 c.args.join.now.place c.args.join.now.slot c.requires

pub node_with_one-image-requires : goal.node_with_one-image-requires
node_with_one-image-requires c =
    let ws = c.args.old.now.0 in
    let i = c.args.join.now.place in
    let slot = c.args.join.now.slot in
    let law = c.children_join.ensures in
    let ends = high_fences_are_read in
    record {
      readable = (is ws i slot c.requires).readable;
      within = within ws i slot c.requires;
      list = list ws i slot c.requires c.level_of.result c.low_fence.result c.high.result c.low_fence.ensures c.high.ensures c.level_of.ensures;
      room = (is ws i slot c.requires).room;
      inner = inner ws i slot c.requires c.level_of.result c.low_fence.result c.high.result c.low_fence.ensures c.high.ensures c.level_of.ensures;
      levels = levels ws i slot c.requires c.level_of.result c.low_fence.result c.high.result c.low_fence.ensures c.high.ensures c.level_of.ensures;
    }

pub returns-clause-words : goal.returns-clause-words
returns-clause-words c = made c.args.old.now.0 c.args.join.now.place c.args.join.now.slot c.requires c.level_of.result c.low_fence.result c.high.result c.low_fence.ensures c.high.ensures c.level_of.ensures c.node_with_one-image.result.0 c.node_with_one-image.ensures
