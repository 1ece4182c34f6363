use Rattle.bz_layout.proofs.Laws as proved
use Rattle.bz_layout.proofs.room_laws.leaf_splits_in_halves.Goals as goal

pub returns : goal.returns
returns c = proved.leaf_splits_in_halves
