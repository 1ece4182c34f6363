use Rattle.bz_layout.proofs.Laws as proved
use Rattle.bz_layout.proofs.room_laws.shared_words_suffice.Goals as goal

pub returns : goal.returns
returns c = proved.shared_words_suffice
