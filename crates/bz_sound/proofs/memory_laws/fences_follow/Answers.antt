use Rattle.bz_sound.proofs.Memory.Growth.{flushes}
use Rattle.bz_sound.proofs.memory_laws.fences_follow.Goals as goal

pub returns : goal.returns
returns c = flushes
