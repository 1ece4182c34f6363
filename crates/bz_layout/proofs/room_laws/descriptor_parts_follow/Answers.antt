use Rattle.bz_layout.proofs.Laws as proved
use Rattle.bz_layout.proofs.room_laws.descriptor_parts_follow.Goals as goal

pub returns : goal.returns
returns c = proved.descriptor_parts_follow
