use Rattle.std.proofs.Common.{◌≡◌}
use Rattle.bz_index.specs.Passes.{worker_of, IsPassOf}
use Rattle.bz_test_threads.proofs.tests.threads.happen_all.Given as goal

abbrev pub invariant-loop-deed : goal.invariant-loop-deed
invariant-loop-deed g l = IsPassOf l.index l.first × (worker_of l.first ≡ 0)
