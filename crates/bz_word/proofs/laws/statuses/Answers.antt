use Rattle.bz_word.proofs.Proved as proved
use Rattle.bz_word.proofs.laws.statuses.Goals as goal

pub returns : goal.returns
returns c = proved.statuses
