use Rattle.bz_layout.proofs.Laws as proved
use Rattle.bz_layout.proofs.address_laws.fresh_words_say.Goals as goal

pub returns : goal.returns
returns c = proved.fresh_words_say
