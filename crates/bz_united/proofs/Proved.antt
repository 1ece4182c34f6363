-- What this crate proves, as lemmas that other crates cite by these names.
use Rattle.bz_united.proofs.Children.{unite}
use Rattle.bz_united.proofs.Nodes.{united-inner}
use Rattle.bz_united.specs.Laws.{ChildrenUnite, UnitedNodesAreInner}

-- the children of two inner nodes that meet at a key make a node between the outer bounds, with the key between them
pub children_unite : ChildrenUnite
children_unite = unite

-- it breaks no rule, and has the children of both
pub united_nodes_are_inner : UnitedNodesAreInner
united_nodes_are_inner = united-inner
