use Rattle.bz_layout.proofs.Laws as proved
use Rattle.bz_layout.proofs.address_laws.slots_apart.Goals as goal

pub returns : goal.returns
returns c = proved.slots_apart
