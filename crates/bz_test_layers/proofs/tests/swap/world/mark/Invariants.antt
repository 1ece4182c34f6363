use Rattle.std.specs.Prelude.{take}
use Rattle.bz_test_layers.proofs.TestWorlds.{AreMarked}
use Rattle.bz_test_layers.proofs.tests.swap.world.mark.Given as goal

-- the targets of the entries so far are marked
abbrev pub invariant-loop-entry : goal.invariant-loop-entry
invariant-loop-entry l = AreMarked l.initial.named.items (take l.entry-index l.entries) l.named.items
