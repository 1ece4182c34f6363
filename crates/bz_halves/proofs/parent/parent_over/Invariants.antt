use Rattle.std.proofs.Common.{◌≡◌, ◌<◌, ◌+◌, ℕ, length}
use Rattle.bz_layout.specs.declared.sizes.TheConstants.{SHARED_WORDS}
use Rattle.bz_node.specs.Reading.{children_in}
use Rattle.bz_halves.specs.Parents.{child_at, parted}
use Rattle.bz_halves.proofs.parent.parent_over.Given as goal

abbrev pub invariant-loop-j : goal.invariant-loop-j
invariant-loop-j l = (length l.children ≡ SHARED_WORDS + 1) × ((k : ℕ) → k < l.j → child_at l.children k ≡ child_at (parted (children_in l.old.0) l.parting.place l.parting.left l.parting.right l.parting.separator) k)
