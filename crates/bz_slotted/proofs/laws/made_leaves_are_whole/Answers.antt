use Rattle.bz_slotted.proofs.Proved as proved
use Rattle.bz_slotted.proofs.laws.made_leaves_are_whole.Goals as goal

pub returns : goal.returns
returns c = proved.made_leaves_are_whole
