use Rattle.std.proofs.Common.{arith}
use Rattle.bz_test_layers.proofs.tests.bus.counts.close.Goals as goal

pub close-requires-clause-free : goal.close-requires-clause-free
close-requires-clause-free g c = λ n h below. c.loop-number.invariant n h (omega arith)
