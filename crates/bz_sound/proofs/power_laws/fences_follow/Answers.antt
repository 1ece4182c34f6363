use Rattle.bz_sound.proofs.Proved as proved
use Rattle.bz_sound.proofs.power_laws.fences_follow.Goals as goal

pub returns : goal.returns
returns c = proved.fences_follow
