use Rattle.bz_inner.specs.LowerDuties.{lowering_of}
use Rattle.bz_inner.proofs.LowerActing.{sound}
use Rattle.bz_inner.proofs.lower.LowerTask.learnt.Goals as goal

pub returns : goal.returns
returns c = let t = c.args.self.now in sound t.config (lowering_of t) t.phase
