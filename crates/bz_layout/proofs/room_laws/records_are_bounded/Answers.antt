use Rattle.bz_layout.proofs.Laws as proved
use Rattle.bz_layout.proofs.room_laws.records_are_bounded.Goals as goal

pub returns : goal.returns
returns c = proved.records_are_bounded
