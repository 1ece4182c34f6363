use Rattle.std.proofs.Common.{◌≡◌}
use Rattle.bz_index.specs.Passes.{worker_of, IsPassOf}
use Rattle.bz_test_threads.proofs.tests.storage.restart.Given as goal

abbrev pub invariant-loop : goal.invariant-loop
invariant-loop g l = IsPassOf l.index l.first × (worker_of l.first ≡ 0)
