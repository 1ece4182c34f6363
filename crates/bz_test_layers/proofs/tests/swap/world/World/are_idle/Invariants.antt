use Rattle.std.specs.Prelude.{◌≡◌, ℕ, ◌<◌}
use Rattle.bz_swap.specs.SwapMemory.{Idle, doing_of}
use Rattle.bz_test_layers.proofs.tests.swap.world.World.are_idle.Given as goal

-- each worker so far does nothing
abbrev pub invariant-loop-w : goal.invariant-loop-w
invariant-loop-w l = (v : ℕ) → v < l.w → doing_of l.self-inside.access v ≡ Idle
