use Rattle.std.proofs.Common.{◌==◌}
use Rattle.bz_sweep.proofs.Standing.{stable, askable, differs, ends, image, loaded}
use Rattle.bz_sweep.proofs.sweep.Sweep.learnt.Goals as goal

pub returns-clause-stable : goal.returns-clause-stable
returns-clause-stable c v stage old new a k e = stable c.args.self.now.area v old new (λ b. b == a) stage c.args.self.now.phase c.requires e k

pub returns-clause-askable : goal.returns-clause-askable
returns-clause-askable c v m ask k e = askable c.args.self.now.area v m c.args.self.now.phase ask c.requires.place k e

pub returns-clause-differs : goal.returns-clause-differs
returns-clause-differs c v m a x k e = differs c.args.self.now.area v m c.args.self.now.phase a x c.requires.place k e

pub returns-clause-ends : goal.returns-clause-ends
returns-clause-ends c v stage m k e = ends c.args.self.now.area v m stage c.args.self.now.phase k e

pub returns-clause-image : goal.returns-clause-image
returns-clause-image c v stage m k = image c.args.self.now.area v m stage c.args.self.now.phase k

pub returns-clause-loaded : goal.returns-clause-loaded
returns-clause-loaded c v m a e k = loaded c.args.self.now.area v m a c.args.self.now.phase e k
