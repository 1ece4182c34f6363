use Rattle.bz_consol.specs.Duties.{renewal_of}
use Rattle.bz_consol.specs.Facts.{consol_plan}
use Rattle.bz_consol.proofs.Acting.{good, sound}
use Rattle.bz_writer.proofs.Acting.{acts-well}
use Rattle.bz_consol.proofs.consolidate.ConsolidateTask.acted.Goals as goal

pub returns : goal.returns
returns c = let t = c.args.self.now in acts-well t.config (consol_plan (renewal_of t)) (sound (renewal_of t)) (good (renewal_of t)) t.phase
