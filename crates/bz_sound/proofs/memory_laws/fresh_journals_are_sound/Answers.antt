use Rattle.bz_sound.proofs.Memory.Fresh.{fresh-sound}
use Rattle.bz_sound.proofs.memory_laws.fresh_journals_are_sound.Goals as goal

pub returns : goal.returns
returns c = fresh-sound
