use Rattle.bz_slotted.proofs.Proved as proved
use Rattle.bz_slotted.proofs.laws.whole_leaves_are_readable.Goals as goal

pub returns : goal.returns
returns c = proved.whole_leaves_are_readable
