use Rattle.bz_slotted.proofs.Proved as proved
use Rattle.bz_slotted.proofs.laws.freeze_is_quiet.Goals as goal

pub returns : goal.returns
returns c = proved.freeze_is_quiet
