use Rattle.bz_sight.proofs.Proved as proved
use Rattle.bz_sight.proofs.laws.own_words_are_hidden.Goals as goal

pub returns : goal.returns
returns c = proved.own_words_are_hidden
