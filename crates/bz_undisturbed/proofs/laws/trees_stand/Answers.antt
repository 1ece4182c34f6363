use Rattle.bz_undisturbed.proofs.Proved as proved
use Rattle.bz_undisturbed.proofs.laws.trees_stand.Goals as goal

pub returns : goal.returns
returns c = proved.trees_stand
