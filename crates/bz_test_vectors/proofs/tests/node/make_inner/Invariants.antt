use Rattle.std.proofs.Common.{ℕ, ◌≤◌, ◌<◌, get_or}
use Rattle.std.specs.Prelude.{IsSome}
use Rattle.bz_node.specs.declared.child.Child.{Child}
use Rattle.bz_test_vectors.proofs.Checks.{RiseTo, bounds_of}
use Rattle.bz_test_vectors.proofs.tests.node.make_inner.Given as goal

abbrev pub invariant-loop-i : goal.invariant-loop-i
invariant-loop-i l = record {
  rise : RiseTo (bounds_of l.children) l.i;
  there : (i : ℕ) (d : Child) → 1 ≤ i → i < l.i → IsSome (get_or l.children i d).low;
}
