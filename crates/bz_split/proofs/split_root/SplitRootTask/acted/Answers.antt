use Rattle.bz_split.specs.Duties.{split_of}
use Rattle.bz_split.specs.Facts.{split_plan}
use Rattle.bz_split.proofs.Acting.{good, sound}
use Rattle.bz_writer.proofs.Acting.{acts-well}
use Rattle.bz_split.proofs.split_root.SplitRootTask.acted.Goals as goal

pub returns : goal.returns
returns c = let t = c.args.self.now in acts-well t.config (split_plan (split_of t)) (sound (split_of t)) (good (split_of t)) t.phase
