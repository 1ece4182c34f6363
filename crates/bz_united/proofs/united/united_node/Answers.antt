use Rattle.bz_united.proofs.Reading.{FrontsAre, high-fence, left-readable, right-readable, right-some, all-room, few-counted, list, inner, levels, made}
use Rattle.bz_united.proofs.united.united_node.Goals as goal

pub high-requires : goal.high-requires
high-requires c = high-fence c.args.left.now.0 c.args.right.now.0 c.args.separator c.requires

pub node_of_both-image-requires : goal.node_of_both-image-requires
node_of_both-image-requires c =
    let l = c.args.left.now.0 in
    let r = c.args.right.now.0 in
    let sep = c.args.separator in
    let front : FrontsAre l r c.level_of.result c.low_fence.result c.high.result = record { level_is = c.level_of.ensures; low_is = c.low_fence.ensures; high_is = c.high.ensures } in
    record {
      left = left-readable l r sep c.requires;
      right = right-readable l r sep c.requires;
      some = right-some l r sep c.requires;
      few = few-counted l r sep c.requires;
      list = list l r sep c.requires c.level_of.result c.low_fence.result c.high.result front;
      room = all-room l r sep c.requires;
      inner = inner l r sep c.requires c.level_of.result c.low_fence.result c.high.result front;
      levels = levels l r sep c.requires c.level_of.result c.low_fence.result c.high.result front;
    }

pub returns-clause-words : goal.returns-clause-words
returns-clause-words c =
    let l = c.args.left.now.0 in
    let r = c.args.right.now.0 in
    let front : FrontsAre l r c.level_of.result c.low_fence.result c.high.result = record { level_is = c.level_of.ensures; low_is = c.low_fence.ensures; high_is = c.high.ensures } in
    made l r c.args.separator c.requires c.level_of.result c.low_fence.result c.high.result front c.node_of_both-image.result.0 c.node_of_both-image.ensures
