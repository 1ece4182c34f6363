use Rattle.bz_solo.proofs.Proved as proved
use Rattle.bz_solo.proofs.laws.ends_are_afforded.Goals as goal

pub returns : goal.returns
returns c = proved.ends_are_afforded
