-- What this crate proves, as lemmas that other crates cite by these names.
use Rattle.bz_node.proofs.MadeInners.{inner_read}
use Rattle.bz_node.proofs.MadeLeaves.{leaf_read}
use Rattle.bz_node.proofs.Unique.{order_unique}
use Rattle.bz_node.specs.Laws.{InnerNodesAreRead, LeavesAreRead, OrderIsUnique}

-- a leaf made whole is readable, and reads as what it was made of
pub leaves_are_read : LeavesAreRead
leaves_are_read = leaf_read

-- an inner node made whole is readable, and reads as what it was made of
pub inner_nodes_are_read : InnerNodesAreRead
inner_nodes_are_read = inner_read

-- records whose keys rise are the only list of them in the order of their keys
pub order_is_unique : OrderIsUnique
order_is_unique = order_unique
