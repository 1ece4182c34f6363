use Rattle.std.proofs.Common.{◌≡◌, ◌<◌, ℕ, length}
use Rattle.bz_layout.specs.declared.sizes.TheConstants.{SHARED_WORDS}
use Rattle.bz_node.specs.Reading.{children_in}
use Rattle.bz_halves.specs.Parents.{child_at}
use Rattle.bz_united.specs.Uniting.{united}
use Rattle.bz_united.proofs.united.node_of_both.Given as goal

abbrev pub invariant-loop-j : goal.invariant-loop-j
invariant-loop-j l = (length l.children ≡ SHARED_WORDS) × ((k : ℕ) → k < l.j → child_at l.children k ≡ child_at (united (children_in l.left.0) (children_in l.right.0) l.separator) k)
