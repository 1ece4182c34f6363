use Rattle.bz_renew.proofs.Proved as proved
use Rattle.bz_renew.proofs.laws.frozen_leaves_stand_still.Goals as goal

pub returns : goal.returns
returns c = proved.frozen_leaves_stand_still
