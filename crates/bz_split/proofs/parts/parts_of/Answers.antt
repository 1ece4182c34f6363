use Rattle.std.proofs.Common.{sym, subst}
use Rattle.bz_renew.specs.Sorted.{IsSortedLeaf}
use Rattle.bz_split.proofs.Parting.{are-parts}
use Rattle.bz_split.proofs.parts.parts_of.Goals as goal

pub returns : goal.returns
returns c =
    let f = c.sort_records-fences in
    let sorted : IsSortedLeaf c.args.view.now.image.0 c.pairs.result.now f.result.low f.result.high = subst (λ z. IsSortedLeaf c.args.view.now.image.0 z f.result.low f.result.high) (sym c.pairs.ensures.same) f.ensures in
    are-parts c.leaves_part_in_halves.ensures c.halves_are_leaves.ensures c.args.view.now.image.0 c.pairs.result.now f.result.low f.result.high c.halves_of-halves.result sorted c.requires.many c.halves_of-halves.ensures
    c.is_whole-2.ensures c.is_whole-3.ensures
