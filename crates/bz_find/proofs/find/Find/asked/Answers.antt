use Rattle.bz_find.proofs.Counts.{stops-in}
use Rattle.bz_find.proofs.find.Find.asked.Goals as goal

pub returns-clause-stopped : goal.returns-clause-stopped
returns-clause-stopped c s link facts e last = stops-in c.args.self.now s link facts e last
