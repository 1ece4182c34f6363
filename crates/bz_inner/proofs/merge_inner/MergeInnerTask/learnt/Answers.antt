use Rattle.bz_inner.specs.JoinDuties.{joining_of}
use Rattle.bz_inner.proofs.JoinActing.{is-sound}
use Rattle.bz_inner.proofs.merge_inner.MergeInnerTask.learnt.Goals as goal

pub returns : goal.returns
returns c = let t = c.args.self.now in is-sound t.config (joining_of t) t.phase
