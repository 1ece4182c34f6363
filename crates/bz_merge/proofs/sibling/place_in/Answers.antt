use Rattle.bz_merge.proofs.Choosing.{found, place-is}
use Rattle.bz_merge.proofs.sibling.place_in.Goals as goal

pub unreachable-requires : goal.unreachable-requires
unreachable-requires c = found c.args.parent.now.0 c.args.slot c.requires c.in-None.ensures.none

pub returns : goal.returns
returns c = place-is c.args.parent.now.0 c.args.slot c.requires c.in-Some.place c.in-Some.ensures.some.0 c.in-Some.ensures.some.1
