use Rattle.std.specs.Prelude.{◌≡◌, ℕ, ◌<◌, slice_index}
use Rattle.bz_layout.specs.Addresses.{swap_address}
use Rattle.bz_test_layers.proofs.tests.swap.world.World.are_free.Given as goal

-- each descriptor so far is free
abbrev pub invariant-loop-s : goal.invariant-loop-s
invariant-loop-s l = (t : ℕ) → t < l.s → slice_index l.self-inside.access.durable (swap_address t) ≡ 0
