use Rattle.bz_ring.proofs.Changes.{other_words_do_not_matter}
use Rattle.bz_ring.proofs.laws.other_words_do_not_matter.Goals as goal

pub returns : goal.returns
returns c = other_words_do_not_matter
