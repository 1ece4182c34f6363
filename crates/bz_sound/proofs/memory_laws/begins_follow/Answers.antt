use Rattle.bz_sound.proofs.Memory.Growth.{begins}
use Rattle.bz_sound.proofs.memory_laws.begins_follow.Goals as goal

pub returns : goal.returns
returns c = begins
