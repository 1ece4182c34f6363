use Rattle.bz_layout.proofs.Laws as proved
use Rattle.bz_layout.proofs.room_laws.inner_takes_separator.Goals as goal

pub returns : goal.returns
returns c = proved.inner_takes_separator
