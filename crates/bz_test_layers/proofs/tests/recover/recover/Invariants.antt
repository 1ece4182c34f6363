use Rattle.std.proofs.Common.{◌≡◌}
use Rattle.bz_recover.specs.Duties.{IsReady, Hears}
use Rattle.bz_test_layers.proofs.tests.recover.recover.Given as goal

abbrev pub invariant-loop-made : goal.invariant-loop-made
invariant-loop-made g l = record { ready : IsReady l.recover; slots : l.slots.nodes ≡ l.recover.config.nodes; one : l.slots.nodes ≡ 1; hears : Hears l.recover l.seen }
