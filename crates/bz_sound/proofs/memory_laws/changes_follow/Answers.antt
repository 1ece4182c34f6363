use Rattle.bz_sound.proofs.Memory.Changed.{changes-follow}
use Rattle.bz_sound.proofs.memory_laws.changes_follow.Goals as goal

pub returns : goal.returns
returns c = changes-follow
