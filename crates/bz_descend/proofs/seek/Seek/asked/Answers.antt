use Rattle.bz_descend.proofs.Counts.{found-counts, stops-after}
use Rattle.bz_descend.proofs.seek.Seek.asked.Goals as goal

pub returns-clause-counts : goal.returns-clause-counts
returns-clause-counts c path s good facts e = found-counts c.args.self.now path s good facts e

pub returns-clause-stopped : goal.returns-clause-stopped
returns-clause-stopped c s good facts e = stops-after c.args.self.now s good facts e
