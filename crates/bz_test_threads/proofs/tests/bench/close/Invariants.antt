use Rattle.std.proofs.Common.{ℕ, ◌<◌}
use Rattle.bz_index.specs.Passes.{IsFree}
use Rattle.bz_test_threads.proofs.tests.bench.close.Given as goal

abbrev pub invariant-loop-worker : goal.invariant-loop-worker
invariant-loop-worker g l = (w : ℕ) → 0 < w → w < l.worker → IsFree l.first w
