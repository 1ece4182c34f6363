use Rattle.std.proofs.Common.{◌<◌}
use Rattle.bz_index.specs.Passes.{worker_of, IsPassOf}
use Rattle.bz_test_threads.proofs.tests.alone.answers_all.Given as goal

abbrev pub invariant-loop-call : goal.invariant-loop-call
invariant-loop-call g l = IsPassOf l.index l.pass × (0 < worker_of l.pass)
