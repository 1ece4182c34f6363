use Rattle.bz_sound.proofs.Memory.Growth.{quiet-acts}
use Rattle.bz_sound.proofs.memory_laws.quiet_acts_follow.Goals as goal

pub returns : goal.returns
returns c = quiet-acts
