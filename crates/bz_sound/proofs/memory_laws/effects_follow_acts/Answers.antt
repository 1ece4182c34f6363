use Rattle.bz_sound.proofs.Memory.Growth.{effects}
use Rattle.bz_sound.proofs.memory_laws.effects_follow_acts.Goals as goal

pub returns : goal.returns
returns c = effects
