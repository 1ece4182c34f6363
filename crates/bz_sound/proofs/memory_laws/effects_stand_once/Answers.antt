use Rattle.bz_sound.proofs.Memory.Once.{effects-once}
use Rattle.bz_sound.proofs.memory_laws.effects_stand_once.Goals as goal

pub returns : goal.returns
returns c = effects-once
