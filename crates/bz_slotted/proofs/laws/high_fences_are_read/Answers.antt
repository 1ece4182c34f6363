use Rattle.bz_slotted.proofs.Proved as proved
use Rattle.bz_slotted.proofs.laws.high_fences_are_read.Goals as goal

pub returns : goal.returns
returns c = proved.high_fences_are_read
