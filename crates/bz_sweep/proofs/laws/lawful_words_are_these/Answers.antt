use Rattle.bz_sweep.proofs.Proved as proved
use Rattle.bz_sweep.proofs.laws.lawful_words_are_these.Goals as goal

pub returns : goal.returns
returns c = proved.lawful_words_are_these
