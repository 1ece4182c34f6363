use Rattle.std.proofs.Common.{subst}
use Rattle.bz_world.specs.Inside.Telling.{MustStartFound}
use Rattle.bz_world.proofs.settle.go_on_finding.Goals as goal

pub settle_found-requires-clause-ends : goal.settle_found-requires-clause-ends
settle_found-requires-clause-ends c = subst (MustStartFound c.args.parts.now c.args.w) c.in-Finish.is c.requires.asks

pub go_on-requires-clause-asks : goal.go_on-requires-clause-asks
go_on-requires-clause-asks c = c.requires.asks.start.must

pub go_on-requires-clause-more : goal.go_on-requires-clause-more
go_on-requires-clause-more c ends = c.in_default.not-Finish ends
