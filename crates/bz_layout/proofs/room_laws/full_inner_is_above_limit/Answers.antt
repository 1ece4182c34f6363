use Rattle.bz_layout.proofs.Laws as proved
use Rattle.bz_layout.proofs.room_laws.full_inner_is_above_limit.Goals as goal

pub returns : goal.returns
returns c = proved.full_inner_is_above_limit
