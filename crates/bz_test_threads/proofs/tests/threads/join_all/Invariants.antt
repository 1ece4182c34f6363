use Rattle.std.proofs.Common.{◌≡◌, ◌<◌, length}
use Rattle.std.specs.Prelude.{All}
use Rattle.bz_index.specs.Passes.{worker_of, IsPassOf}
use Rattle.bz_test_threads.proofs.tests.threads.join_all.Given as goal

abbrev pub invariant-loop-job : goal.invariant-loop-job
invariant-loop-job g l = IsPassOf l.index l.first × (worker_of l.first ≡ 0) × All (λ j. IsPassOf l.index j.pass × (0 < worker_of j.pass)) l.jobs.items

abbrev pub decreases-loop-job : goal.decreases-loop-job
decreases-loop-job g l = length l.jobs.items
