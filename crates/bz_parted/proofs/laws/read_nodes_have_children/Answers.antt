use Rattle.bz_parted.proofs.Proved as proved
use Rattle.bz_parted.proofs.laws.read_nodes_have_children.Goals as goal

pub returns : goal.returns
returns c = proved.read_nodes_have_children
