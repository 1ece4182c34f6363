use Rattle.bz_layout.proofs.Laws as proved
use Rattle.bz_layout.proofs.room_laws.split_leaf_is_not_merged.Goals as goal

pub returns : goal.returns
returns c = proved.split_leaf_is_not_merged
