use Rattle.std.proofs.Common.{◌==◌}
use Rattle.bz_recover.proofs.Joining.{held}
use Rattle.bz_recover.proofs.Standing.{stable, loaded, image, askable, ends}
use Rattle.bz_recover.proofs.recover.Recover.learnt.Goals as goal

pub returns-clause-stable : goal.returns-clause-stable
returns-clause-stable c v stage old new a k e = stable c.args.self.now c.requires v stage old new (λ b. b == a) k e

pub returns-clause-loaded : goal.returns-clause-loaded
returns-clause-loaded c v m a e k = loaded c.args.self.now c.requires v m a e k

pub returns-clause-image : goal.returns-clause-image
returns-clause-image c v stage m k = image c.args.self.now c.requires v stage m k

pub returns-clause-askable : goal.returns-clause-askable
returns-clause-askable c v m todo k e = askable c.args.self.now c.requires v m todo k e

pub returns-clause-ends : goal.returns-clause-ends
returns-clause-ends c v stage m k e = ends c.args.self.now c.requires v stage m k e

pub returns-clause-reached : goal.returns-clause-reached
returns-clause-reached c v image slots n walks t e = held c.args.self.now v image slots c.requires n walks t e
