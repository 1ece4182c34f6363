use Rattle.bz_layout.proofs.Laws as proved
use Rattle.bz_layout.proofs.room_laws.node_parts_follow.Goals as goal

pub returns : goal.returns
returns c = proved.node_parts_follow
