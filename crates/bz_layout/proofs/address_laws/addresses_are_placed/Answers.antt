use Rattle.bz_layout.proofs.Laws as proved
use Rattle.bz_layout.proofs.address_laws.addresses_are_placed.Goals as goal

pub returns : goal.returns
returns c = proved.addresses_are_placed
