use Rattle.bz_solo.proofs.Proved as proved
use Rattle.bz_solo.proofs.laws.leaves_are_read.Goals as goal

pub returns : goal.returns
returns c = proved.leaves_are_read
