use Rattle.bz_recover.proofs.Ending.{loads, ends, reached}
use Rattle.bz_recover.proofs.walk.Walk.learnt.Goals as goal

pub returns-clause-loads : goal.returns-clause-loads
returns-clause-loads c todo e = loads c.args.self.now.config c.args.self.now.top c.args.self.now.step todo c.requires.walk.config c.requires.step e

pub returns-clause-ends : goal.returns-clause-ends
returns-clause-ends c values image slots n walks t e =
    reached c.args.self.now.config image slots n (ends c.args.self.now.config image c.args.self.now.top c.args.self.now.ways slots.free c.args.self.now.step e (walks image t).0)
