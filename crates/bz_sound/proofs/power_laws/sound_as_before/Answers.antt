use Rattle.bz_sound.proofs.Proved as proved
use Rattle.bz_sound.proofs.power_laws.sound_as_before.Goals as goal

pub returns : goal.returns
returns c = proved.sound_as_before
