-- What this crate proves, as lemmas that other crates cite by these names.
use Rattle.bz_halves.proofs.Parents.{may-be-parted}
use Rattle.bz_halves.proofs.PartedParents.{parents-whole}
use Rattle.bz_halves.proofs.Parting.{are-leaves, part-in-halves}
use Rattle.bz_halves.proofs.ReadParents.{may-part}
use Rattle.bz_halves.proofs.Roots.{roots-stand}
use Rattle.bz_halves.specs.Laws.{HalvesAreLeaves, LeavesPartInHalves, RootsStandOverTwo}
use Rattle.bz_halves.specs.Parents.{ChildrenMayBeParted, ParentsOfHalvesAreWhole, ReadChildrenMayBeParted}

-- the records of a leaf that is split part in two halves, each of which has room for any record
pub leaves_part_in_halves : LeavesPartInHalves
leaves_part_in_halves = part-in-halves

-- the halves are leaves, and say of each key what the leaf says
pub halves_are_leaves : HalvesAreLeaves
halves_are_leaves = are-leaves

-- a new root over two leaves breaks no rule, and takes one more separator
pub roots_stand_over_two : RootsStandOverTwo
roots_stand_over_two = roots-stand

-- the children of a parent of which one is parted in two make a node again, between the same fences
pub children_may_be_parted : ChildrenMayBeParted
children_may_be_parted = may-be-parted

-- where there is room, that node breaks no rule, and has one child more, the two halves in place of the one
pub parents_of_halves_are_whole : ParentsOfHalvesAreWhole
parents_of_halves_are_whole = parents-whole

-- the children that are read of an inner node that breaks no rule make a node, of which any one may be parted by a key between its bounds
pub read_children_may_be_parted : ReadChildrenMayBeParted
read_children_may_be_parted = may-part
