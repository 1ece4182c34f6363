use Rattle.std.proofs.Common.{ℕ, ◌<◌}
use Rattle.bz_bus.specs.Passes.{IsFree}
use Rattle.bz_test_layers.proofs.tests.bus.counts.close.Given as goal

abbrev pub invariant-loop-number : goal.invariant-loop-number
invariant-loop-number g l = (k : ℕ) → 0 < k → k < l.number → IsFree l.first k
