-- What workloads are.
use Rattle.std.specs.Prelude.{◌≤◌, ℕ}
use Rattle.bz_layout.specs.declared.limits.TheConstants.{MIN_WORKERS, MAX_WORKERS}
use Rattle.bz_script.specs.ItemLaws.{IsJob}
use Rattle.bz_gen.specs.Workload.{workload_of}

-- a workload is a script: its sizes are in range, and its calls are of workers from 1 to 64
abbrev pub WorkloadsAreJobs : Type 0
WorkloadsAreJobs = (seed calls workers : ℕ) → MIN_WORKERS ≤ workers → workers ≤ MAX_WORKERS → IsJob (workload_of seed calls workers)
