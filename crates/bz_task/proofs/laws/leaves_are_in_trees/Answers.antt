use Rattle.bz_task.proofs.Proved as proved
use Rattle.bz_task.proofs.laws.leaves_are_in_trees.Goals as goal

pub returns : goal.returns
returns c = proved.leaves_are_in_trees
