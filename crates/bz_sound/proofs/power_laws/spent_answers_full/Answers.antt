use Rattle.bz_sound.proofs.Proved as proved
use Rattle.bz_sound.proofs.power_laws.spent_answers_full.Goals as goal

pub returns : goal.returns
returns c = proved.spent_answers_full
