use Rattle.bz_content.proofs.Proved as proved
use Rattle.bz_content.proofs.laws.plain_words_stand_for_themselves.Goals as goal

pub returns : goal.returns
returns c = proved.plain_words_stand_for_themselves
