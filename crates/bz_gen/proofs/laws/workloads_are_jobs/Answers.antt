use Rattle.bz_gen.proofs.Proved as proved
use Rattle.bz_gen.proofs.laws.workloads_are_jobs.Goals as goal

pub returns : goal.returns
returns c = proved.workloads_are_jobs
