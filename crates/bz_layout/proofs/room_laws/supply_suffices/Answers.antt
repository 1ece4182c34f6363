use Rattle.bz_layout.proofs.Laws as proved
use Rattle.bz_layout.proofs.room_laws.supply_suffices.Goals as goal

pub returns : goal.returns
returns c = proved.supply_suffices
