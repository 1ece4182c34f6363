use Rattle.bz_slotted.proofs.Proved as proved
use Rattle.bz_slotted.proofs.laws.live_words_fit.Goals as goal

pub returns : goal.returns
returns c = proved.live_words_fit
