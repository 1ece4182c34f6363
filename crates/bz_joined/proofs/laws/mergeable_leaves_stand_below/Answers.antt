use Rattle.bz_joined.proofs.Proved as proved
use Rattle.bz_joined.proofs.laws.mergeable_leaves_stand_below.Goals as goal

pub returns : goal.returns
returns c = proved.mergeable_leaves_stand_below
