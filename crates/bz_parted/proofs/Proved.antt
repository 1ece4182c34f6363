-- What this crate proves, as lemmas that other crates cite by these names.
use Rattle.std.proofs.Common.{arith}
use Rattle.std.specs.Prelude.{length, ◌+◌}
use Rattle.bz_key.proofs.PackingLaws.{length-packed}
use Rattle.bz_key.specs.Packing.{packed}
use Rattle.bz_layout.proofs.Laws.{inner_takes_separator}
use Rattle.bz_parted.proofs.Nodes.{are-inner}
use Rattle.bz_parted.proofs.Parting.{part-in-halves}
use Rattle.bz_parted.proofs.ReadNodes.{read-nodes}
use Rattle.bz_parted.proofs.Roots.{roots-stand}
use Rattle.bz_parted.specs.Laws.{ChildrenPartInHalves, HalvesAreInner, HalvesTakeOneMore, ReadNodesHaveChildren, RootsStandAtLevels}
use Rattle.bz_parted.specs.Parting.{child_words}

-- the children of an inner node that is split part in two halves, each of which takes one more separator
pub children_part_in_halves : ChildrenPartInHalves
children_part_in_halves = part-in-halves

-- a half has room for one child more, below any separator
pub halves_take_one_more : HalvesTakeOneMore
halves_take_one_more children sep key l = omega (arith, inner_takes_separator (child_words children) (2 + length (packed sep)) l (omega (arith, length-packed sep, key.fits)))

-- the halves are inner nodes, and have between them the children of the node that is split
pub halves_are_inner : HalvesAreInner
halves_are_inner = are-inner

-- a new root over two nodes breaks no rule, and takes one more separator
pub roots_stand_at_levels : RootsStandAtLevels
roots_stand_at_levels = roots-stand

-- the children that are read of an inner node that breaks no rule make a node, and take the words that its status says
pub read_nodes_have_children : ReadNodesHaveChildren
read_nodes_have_children = read-nodes
