use Rattle.bz_sound.proofs.Memory.Growth.{ends}
use Rattle.bz_sound.proofs.memory_laws.ends_follow.Goals as goal

pub returns : goal.returns
returns c = ends
