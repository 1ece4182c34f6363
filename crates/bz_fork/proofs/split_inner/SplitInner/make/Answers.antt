use Rattle.bz_fork.proofs.split_inner.SplitInner.make.Goals as goal

pub parent_with-requires : goal.parent_with-requires
parent_with-requires c = (c.args.self.now.config.nodes, c.requires.node.parent c.parts_of-halves.result.left.0 c.parts_of-halves.result.right.0 c.parts_of-halves.result.separator c.parts_of-halves.ensures)

pub unreachable-requires : goal.unreachable-requires
unreachable-requires c =
    let no = c.in_default.ensures.room.1 (c.requires.room c.parts_of-halves.result.left.0 c.parts_of-halves.result.right.0 c.parts_of-halves.result.separator c.parts_of-halves.ensures) in absurd (cc)

pub returns : goal.returns
returns c = record {
  sep = c.parts_of-halves.result.separator;
  parts = c.parts_of-halves.ensures;
  over = c.in-Some.ensures.words c.args.self.now.config.nodes;
  size = c.is_whole.ensures;
}
