use Rattle.bz_inner.specs.LowerDuties.{lowering_of}
use Rattle.bz_inner.proofs.LowerActing.{acts-well}
use Rattle.bz_inner.proofs.lower.LowerTask.acted.Goals as goal

pub returns : goal.returns
returns c = let t = c.args.self.now in acts-well t.config (lowering_of t) t.phase
