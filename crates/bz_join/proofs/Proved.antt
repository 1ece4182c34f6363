-- What this crate proves, as lemmas that other crates cite by these names.
use Rattle.bz_join.proofs.JoinedParents.{children-join}
use Rattle.bz_join.proofs.Joining.{join}
use Rattle.bz_join.specs.Leaves.{NeighboursJoin}
use Rattle.bz_join.specs.Parents.{ChildrenJoin}

-- the records of two neighbouring leaves that have room in one make a leaf, which says what the two say
pub neighbours_join : NeighboursJoin
neighbours_join = join

-- an inner node of which two neighbouring children are made one makes a node again, at the same place, with one child fewer
pub children_join : ChildrenJoin
children_join = children-join
