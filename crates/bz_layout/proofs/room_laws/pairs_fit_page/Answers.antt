use Rattle.bz_layout.proofs.Laws as proved
use Rattle.bz_layout.proofs.room_laws.pairs_fit_page.Goals as goal

pub returns : goal.returns
returns c = proved.pairs_fit_page
