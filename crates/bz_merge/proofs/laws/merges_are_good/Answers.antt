use Rattle.bz_merge.proofs.Proved as proved
use Rattle.bz_merge.proofs.laws.merges_are_good.Goals as goal

pub returns : goal.returns
returns c = proved.merges_are_good
