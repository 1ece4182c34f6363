use Rattle.bz_sound.proofs.Memory.Growth.{page-ends}
use Rattle.bz_sound.proofs.memory_laws.page_ends_follow.Goals as goal

pub returns : goal.returns
returns c = page-ends
