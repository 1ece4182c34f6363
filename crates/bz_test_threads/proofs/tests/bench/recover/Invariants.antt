use Rattle.std.proofs.Common.{◌≡◌}
use Rattle.bz_test_threads.proofs.tests.bench.recover.Given as goal
use Rattle.bz_index.specs.Passes.{worker_of, IsPassOf}

abbrev pub invariant-loop-step : goal.invariant-loop-step
invariant-loop-step g l = IsPassOf l.index l.first × (worker_of l.first ≡ 0)
