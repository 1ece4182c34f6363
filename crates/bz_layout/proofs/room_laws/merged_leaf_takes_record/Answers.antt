use Rattle.bz_layout.proofs.Laws as proved
use Rattle.bz_layout.proofs.room_laws.merged_leaf_takes_record.Goals as goal

pub returns : goal.returns
returns c = proved.merged_leaf_takes_record
