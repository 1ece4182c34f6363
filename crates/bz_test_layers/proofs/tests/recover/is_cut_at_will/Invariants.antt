use Rattle.std.proofs.Common.{◌≡◌}
use Rattle.bz_test_layers.proofs.tests.recover.is_cut_at_will.Given as goal

abbrev pub invariant-loop-first : goal.invariant-loop-first
invariant-loop-first g l = l.slots.nodes ≡ 1
