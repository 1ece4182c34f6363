use Rattle.bz_sound.proofs.Proved as proved
use Rattle.bz_sound.proofs.power_laws.one_history.Goals as goal

pub returns : goal.returns
returns c = proved.one_history
