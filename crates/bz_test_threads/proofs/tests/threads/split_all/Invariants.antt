use Rattle.std.proofs.Common.{◌≡◌, ◌<◌}
use Rattle.std.specs.Prelude.{All}
use Rattle.bz_index.specs.Passes.{worker_of, IsPassOf}
use Rattle.bz_test_threads.proofs.tests.threads.split_all.Given as goal

abbrev pub invariant-loop-worker : goal.invariant-loop-worker
invariant-loop-worker g l = IsPassOf l.index l.first × (worker_of l.first ≡ 0) × All (λ j. IsPassOf l.index j.pass × (0 < worker_of j.pass)) l.jobs.items
