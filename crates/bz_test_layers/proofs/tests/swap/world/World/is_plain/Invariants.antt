use Rattle.std.specs.Prelude.{ℕ, ◌<◌}
use Rattle.bz_test_layers.proofs.TestWorlds.{IsPlainAt}
use Rattle.bz_test_layers.proofs.tests.swap.world.World.is_plain.Given as goal

-- each word so far is plain
abbrev pub invariant-loop-a : goal.invariant-loop-a
invariant-loop-a l = (b : ℕ) → b < l.a → IsPlainAt l.self-inside.access b
