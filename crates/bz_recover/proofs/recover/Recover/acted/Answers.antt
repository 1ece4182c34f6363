use Rattle.bz_recover.proofs.Standing.{stored, flushed}
use Rattle.bz_recover.proofs.recover.Recover.acted.Goals as goal

pub returns-clause-stored : goal.returns-clause-stored
returns-clause-stored c v old new a x e k s = stored c.args.self.now c.requires v old new a x e k s

pub returns-clause-flushed : goal.returns-clause-flushed
returns-clause-flushed c v old new line e k s = flushed c.args.self.now c.requires v old new line e k s
