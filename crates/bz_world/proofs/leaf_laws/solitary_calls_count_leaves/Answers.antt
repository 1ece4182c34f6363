use Rattle.bz_world.proofs.Proved as proved
use Rattle.bz_world.proofs.leaf_laws.solitary_calls_count_leaves.Goals as goal

pub returns : goal.returns
returns c = proved.solitary_calls_count_leaves
