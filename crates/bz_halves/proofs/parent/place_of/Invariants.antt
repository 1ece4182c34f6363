use Rattle.std.proofs.Common.{◌≢◌, ◌<◌, ℕ}
use Rattle.bz_node.specs.Reading.{child_in}
use Rattle.bz_halves.proofs.parent.place_of.Given as goal

abbrev pub invariant-loop-j : goal.invariant-loop-j
invariant-loop-j l = (k : ℕ) → k < l.j → (child_in l.old.0 k).slot ≢ l.slot
