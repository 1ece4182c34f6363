use Rattle.bz_joined.proofs.Proved as proved
use Rattle.bz_joined.proofs.laws.undisturbed_root_leaves_are_the_tree.Goals as goal

pub returns : goal.returns
returns c = proved.undisturbed_root_leaves_are_the_tree
