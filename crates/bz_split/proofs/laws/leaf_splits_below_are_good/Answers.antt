use Rattle.bz_split.proofs.Proved as proved
use Rattle.bz_split.proofs.laws.leaf_splits_below_are_good.Goals as goal

pub returns : goal.returns
returns c = proved.leaf_splits_below_are_good
