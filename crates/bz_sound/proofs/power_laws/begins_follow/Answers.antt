use Rattle.bz_sound.proofs.Proved as proved
use Rattle.bz_sound.proofs.power_laws.begins_follow.Goals as goal

pub returns : goal.returns
returns c = proved.begins_follow
