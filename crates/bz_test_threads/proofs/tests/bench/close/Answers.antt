use Rattle.std.proofs.Common.{arith}
use Rattle.bz_test_threads.proofs.tests.bench.close.Goals as goal

pub close-requires-clause-free : goal.close-requires-clause-free
close-requires-clause-free g c = λ w h few. let below = c.requires.0.placed.below in c.loop-worker.invariant w h (omega arith)
