use Rattle.bz_sound.proofs.Proved as proved
use Rattle.bz_sound.proofs.power_laws.quiet_acts_follow.Goals as goal

pub returns : goal.returns
returns c = proved.quiet_acts_follow
