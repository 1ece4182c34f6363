use Rattle.bz_halves.proofs.Making.{separator-read, left-list, right-list, rest-room, left-is, right-is}
use Rattle.bz_halves.proofs.halves.halves_of.Goals as goal

pub bounds-records-cut : goal.bounds-records-cut
bounds-records-cut c = (c.leaves_part_in_halves.ensures c.args.records.now c.args.low c.args.high c.cut_of-cut.result c.requires.leaf c.cut_of-cut.ensures.cut).more

pub bounds-records-cut-2 : goal.bounds-records-cut-2
bounds-records-cut-2 c = (c.leaves_part_in_halves.ensures c.args.records.now c.args.low c.args.high c.cut_of-cut.result c.requires.leaf c.cut_of-cut.ensures.cut).more

pub leaf_of-requires-clause-leaf : goal.leaf_of-requires-clause-leaf
leaf_of-requires-clause-leaf c =
    let h = c.leaves_part_in_halves.ensures c.args.records.now c.args.low c.args.high c.cut_of-cut.result c.requires.leaf c.cut_of-cut.ensures.cut in
    left-list c.args.records.now c.args.low c.args.high c.cut_of-cut.result c.index-records-cut.result h

pub leaf_of-requires-clause-room : goal.leaf_of-requires-clause-room
leaf_of-requires-clause-room c = (c.leaves_part_in_halves.ensures c.args.records.now c.args.low c.args.high c.cut_of-cut.result c.requires.leaf c.cut_of-cut.ensures.cut).left_room

pub leaf_of-requires-2-clause-leaf : goal.leaf_of-requires-2-clause-leaf
leaf_of-requires-2-clause-leaf c =
    let h = c.leaves_part_in_halves.ensures c.args.records.now c.args.low c.args.high c.cut_of-cut.result c.requires.leaf c.cut_of-cut.ensures.cut in
    right-list c.args.records.now c.args.low c.args.high c.cut_of-cut.result c.index-records-cut.result h

pub leaf_of-requires-2-clause-room : goal.leaf_of-requires-2-clause-room
leaf_of-requires-2-clause-room c =
    let h = c.leaves_part_in_halves.ensures c.args.records.now c.args.low c.args.high c.cut_of-cut.result c.requires.leaf c.cut_of-cut.ensures.cut in
    rest-room c.args.records.now c.args.low c.args.high c.cut_of-cut.result c.index-records-cut.result h

pub returns : goal.returns
returns c =
    let h = c.leaves_part_in_halves.ensures c.args.records.now c.args.low c.args.high c.cut_of-cut.result c.requires.leaf c.cut_of-cut.ensures.cut in record {
      cut = c.cut_of-cut.result;
      is_cut = c.cut_of-cut.ensures.cut;
      separator = separator-read c.args.records.now c.args.low c.args.high c.cut_of-cut.result c.index-records-cut.result h;
      left = left-is c.args.records.now c.args.low c.args.high c.cut_of-cut.result c.index-records-cut.result h c.leaf_of.result.0 c.leaf_of.ensures;
      right = right-is c.args.records.now c.args.low c.args.high c.cut_of-cut.result c.index-records-cut.result h c.leaf_of-2.result.0 c.leaf_of-2.ensures;
    }
