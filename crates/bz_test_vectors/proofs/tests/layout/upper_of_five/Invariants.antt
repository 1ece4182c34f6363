use Rattle.std.proofs.Common.{◌≡◌}
use Rattle.bz_test_vectors.proofs.tests.layout.upper_of_five.Given as goal

abbrev pub invariant-loop-slot : goal.invariant-loop-slot
invariant-loop-slot l = l.slots.nodes ≡ 5
