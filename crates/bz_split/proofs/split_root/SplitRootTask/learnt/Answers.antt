use Rattle.bz_split.specs.Duties.{split_of}
use Rattle.bz_split.specs.Facts.{split_plan}
use Rattle.bz_split.proofs.Acting.{sound}
use Rattle.bz_writer.proofs.Acting.{is-sound}
use Rattle.bz_split.proofs.split_root.SplitRootTask.learnt.Goals as goal

pub returns : goal.returns
returns c = let t = c.args.self.now in is-sound (split_plan (split_of t)) (sound (split_of t)) t.config t.phase
