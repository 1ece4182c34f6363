use Rattle.std.proofs.Common.{◌≡◌, ◌<◌, ℕ, length}
use Rattle.bz_layout.specs.declared.sizes.TheConstants.{SHARED_WORDS}
use Rattle.bz_node.specs.Reading.{children_in}
use Rattle.bz_halves.specs.Parents.{child_at}
use Rattle.bz_join.specs.Parents.{joined}
use Rattle.bz_join.proofs.parent.node_with_one.Given as goal

abbrev pub invariant-loop-j : goal.invariant-loop-j
invariant-loop-j l = (length l.children ≡ SHARED_WORDS) × ((k : ℕ) → k < l.j → child_at l.children k ≡ child_at (joined (children_in l.old.0) l.join.place l.join.slot) k)
