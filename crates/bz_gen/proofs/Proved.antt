-- What this crate proves, as lemmas that other crates cite by these names.
use Rattle.bz_gen.proofs.Jobs.{jobs}
use Rattle.bz_gen.specs.Laws.{WorkloadsAreJobs}

-- a workload is a script whose numbers lie in their ranges
pub workloads_are_jobs : WorkloadsAreJobs
workloads_are_jobs = jobs
