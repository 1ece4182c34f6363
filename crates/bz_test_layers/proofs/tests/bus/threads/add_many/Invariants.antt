use Rattle.std.proofs.Common.{◌≡◌}
use Rattle.bz_bus.specs.Passes.{IsPassOf, number_of, free_in}
use Rattle.bz_test_layers.proofs.tests.bus.threads.add_many.Given as goal

abbrev pub invariant-loop-count : goal.invariant-loop-count
invariant-loop-count g l = IsPassOf l.bus l.pass × (number_of l.pass ≡ number_of l.fn.pass) × (free_in l.pass ≡ free_in l.fn.pass)
