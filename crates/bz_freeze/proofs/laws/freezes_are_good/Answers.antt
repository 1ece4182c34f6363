use Rattle.bz_freeze.proofs.Proved as proved
use Rattle.bz_freeze.proofs.laws.freezes_are_good.Goals as goal

pub returns : goal.returns
returns c = proved.freezes_are_good
