use Rattle.bz_solo.proofs.Proved as proved
use Rattle.bz_solo.proofs.laws.less_is_spared.Goals as goal

pub returns : goal.returns
returns c = proved.less_is_spared
