use Rattle.std.proofs.Common.{◌<◌}
use Rattle.bz_index.specs.Passes.{worker_of, IsPassOf}
use Rattle.bz_test_threads.proofs.tests.threads.make_all.Given as goal

abbrev pub invariant-loop-one : goal.invariant-loop-one
invariant-loop-one g l = IsPassOf l.index l.pass × (0 < worker_of l.pass)
