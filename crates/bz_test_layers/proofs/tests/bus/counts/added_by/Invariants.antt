use Rattle.std.proofs.Common.{◌≡◌, length}
use Rattle.std.specs.Prelude.{All}
use Rattle.bz_bus.specs.Passes.{IsPassOf, number_of}
use Rattle.bz_test_layers.proofs.tests.bus.counts.added_by.Given as goal

abbrev pub invariant-loop-number : goal.invariant-loop-number
invariant-loop-number g l = IsPassOf l.bus l.first × (number_of l.first ≡ 0) × All (λ p. IsPassOf l.bus p) l.passes.items

abbrev pub invariant-loop-pass : goal.invariant-loop-pass
invariant-loop-pass g l = IsPassOf l.bus l.first × (number_of l.first ≡ 0) × All (λ p. IsPassOf l.bus p) l.passes.items

abbrev pub decreases-loop-pass : goal.decreases-loop-pass
decreases-loop-pass g l = length l.passes.items
