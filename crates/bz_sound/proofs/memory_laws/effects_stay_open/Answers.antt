use Rattle.bz_sound.proofs.Proved as proved
use Rattle.bz_sound.proofs.memory_laws.effects_stay_open.Goals as goal

pub returns : goal.returns
returns c = proved.effects_stay_open
