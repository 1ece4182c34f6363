use Rattle.bz_layout.proofs.Laws as proved
use Rattle.bz_layout.proofs.room_laws.delete_leaves_enough.Goals as goal

pub returns : goal.returns
returns c = proved.delete_leaves_enough
