use Rattle.bz_merge.proofs.Sides.{side-kept}
use Rattle.bz_merge.proofs.merge.Merge.settled.Goals as goal

pub returns-clause-side : goal.returns-clause-side
returns-clause-side c ne = side-kept c.left_of.result c.reading.result.phase c.reading.result.side c.args.self.now.side c.reading.ensures.some c.reading.ensures.none ne
