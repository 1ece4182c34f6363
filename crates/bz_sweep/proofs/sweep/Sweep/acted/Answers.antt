use Rattle.bz_sweep.proofs.Standing.{stored, flushed}
use Rattle.bz_sweep.proofs.sweep.Sweep.acted.Goals as goal

pub returns-clause-stored : goal.returns-clause-stored
returns-clause-stored c v old new a x e k s = stored c.args.self.now.area v old new a x c.args.self.now.phase c.requires.place e s k

pub returns-clause-flushed : goal.returns-clause-flushed
returns-clause-flushed c v old new line e k s = flushed c.args.self.now.area v old new line c.args.self.now.phase c.requires.place e s k
