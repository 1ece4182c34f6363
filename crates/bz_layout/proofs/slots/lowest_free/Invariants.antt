use Rattle.std.proofs.Common.{length, ◌-◌}
use Rattle.bz_layout.specs.Table.{NoneFreeBelow}
use Rattle.bz_layout.proofs.slots.lowest_free.Given as goal

abbrev pub invariant-loop-slot : goal.invariant-loop-slot
invariant-loop-slot l = NoneFreeBelow l.slot l.is_free

abbrev pub decreases-loop-slot : goal.decreases-loop-slot
decreases-loop-slot l = length l.is_free - l.slot
