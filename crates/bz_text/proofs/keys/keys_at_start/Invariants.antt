use Rattle.std.proofs.Common.{◌≤◌, length, drop}
use Rattle.std.specs.FinMap.{from_entries}
use Rattle.bz_text.specs.Summing.{AreKeysOf}
use Rattle.bz_text.proofs.keys.keys_at_start.Given as goal

abbrev pub invariant-loop-left : goal.invariant-loop-left
invariant-loop-left l = record { within : l.left ≤ length l.held.items; so_far : AreKeysOf (from_entries (drop l.left l.held.items)) l.keys.keys }

abbrev pub decreases-loop-left : goal.decreases-loop-left
decreases-loop-left l = l.left
