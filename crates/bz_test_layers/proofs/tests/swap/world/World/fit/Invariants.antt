use Rattle.std.specs.Prelude.{All, take}
use Rattle.bz_swap.specs.Starts.{IsEntry}
use Rattle.bz_test_layers.proofs.tests.swap.world.World.fit.Given as goal

-- each entry so far fits
abbrev pub invariant-loop-entry : goal.invariant-loop-entry
invariant-loop-entry l = All (IsEntry l.self) (take l.entry-index l.entries)
