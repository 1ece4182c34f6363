use Rattle.bz_text.proofs.Proved as proved
use Rattle.bz_text.proofs.laws.fates_are_right.Goals as goal

pub returns : goal.returns
returns c = proved.fates_are_right
