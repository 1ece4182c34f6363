use Rattle.bz_node.specs.Records.{keys_of}
use Rattle.bz_test_vectors.proofs.Checks.{RiseTo}
use Rattle.bz_test_vectors.proofs.tests.node.make_leaf.Given as goal

abbrev pub invariant-loop-i : goal.invariant-loop-i
invariant-loop-i l = RiseTo (keys_of l.records) l.i
