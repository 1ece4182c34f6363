use Rattle.bz_qscript.proofs.Jobs as jobs
use Rattle.bz_qscript.proofs.laws.scripts_are_jobs.Goals as goal

pub returns : goal.returns
returns c = jobs.scripts_are_jobs
