use Rattle.bz_qscript.specs.Script.{job_of}
use Rattle.bz_qrun.proofs.run.read.Goals as goal

pub returns-in-Ok-clause-job : goal.returns-in-Ok-clause-job
returns-in-Ok-clause-job c = c.scripts_are_jobs.ensures c.args.bytes.now (job_of c.in-Ok.script) c.in-Ok.ensures
