use Rattle.bz_layout.proofs.Laws as proved
use Rattle.bz_layout.proofs.room_laws.settled_leaf_takes_record.Goals as goal

pub returns : goal.returns
returns c = proved.settled_leaf_takes_record
