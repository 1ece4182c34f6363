use Rattle.bz_inner.specs.JoinDuties.{joining_of}
use Rattle.bz_inner.proofs.JoinActing.{acts-well}
use Rattle.bz_inner.proofs.merge_inner.MergeInnerTask.acted.Goals as goal

pub returns : goal.returns
returns c = let t = c.args.self.now in acts-well t.config (joining_of t) t.phase
