use Rattle.bz_consol.specs.Duties.{renewal_of}
use Rattle.bz_consol.specs.Facts.{consol_plan}
use Rattle.bz_consol.proofs.Acting.{sound}
use Rattle.bz_writer.proofs.Acting.{is-sound}
use Rattle.bz_consol.proofs.consolidate.ConsolidateTask.learnt.Goals as goal

pub returns : goal.returns
returns c = let t = c.args.self.now in is-sound (consol_plan (renewal_of t)) (sound (renewal_of t)) t.config t.phase
