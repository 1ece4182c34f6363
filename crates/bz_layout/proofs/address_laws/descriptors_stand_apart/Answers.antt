use Rattle.bz_layout.proofs.Laws as proved
use Rattle.bz_layout.proofs.address_laws.descriptors_stand_apart.Goals as goal

pub returns : goal.returns
returns c = proved.descriptors_stand_apart
