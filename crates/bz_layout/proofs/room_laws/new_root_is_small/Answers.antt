use Rattle.bz_layout.proofs.Laws as proved
use Rattle.bz_layout.proofs.room_laws.new_root_is_small.Goals as goal

pub returns : goal.returns
returns c = proved.new_root_is_small
