use Rattle.bz_swap.proofs.Proved as proved
use Rattle.bz_swap.proofs.laws.settled_words_stay.Goals as goal

pub returns : goal.returns
returns c = proved.settled_words_stay
