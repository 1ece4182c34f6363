use Rattle.bz_branch.proofs.Proved as proved
use Rattle.bz_branch.proofs.laws.read_nodes_were.Goals as goal

pub returns : goal.returns
returns c = proved.read_nodes_were
