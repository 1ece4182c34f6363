use Rattle.bz_sound.proofs.Memory.Ended.{effects-answer}
use Rattle.bz_sound.proofs.memory_laws.effects_answer.Goals as goal

pub returns : goal.returns
returns c = effects-answer
