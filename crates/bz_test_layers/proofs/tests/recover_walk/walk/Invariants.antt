use Rattle.std.proofs.Common.{◌≡◌}
use Rattle.bz_recover.specs.Duties.{hears_in}
use Rattle.bz_recover.specs.Walking.{IsWalking, asks_of_walk}
use Rattle.bz_test_layers.proofs.tests.recover_walk.walk.Given as goal

abbrev pub invariant-loop-a : goal.invariant-loop-a
invariant-loop-a g l = l.slots.nodes ≡ 8

abbrev pub invariant-loop-made : goal.invariant-loop-made
invariant-loop-made g l = record { ready : IsWalking l.walk; slots : l.slots.nodes ≡ l.walk.config.nodes; hears : hears_in (asks_of_walk l.walk) l.seen }
