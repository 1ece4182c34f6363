use Rattle.bz_sound.proofs.Memory.Acknowledged.{told-took-effect}
use Rattle.bz_sound.proofs.memory_laws.told_changes_took_effect.Goals as goal

pub returns : goal.returns
returns c = told-took-effect
