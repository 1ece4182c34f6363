use Rattle.bz_sound.proofs.Memory.Ended.{spent-answers}
use Rattle.bz_sound.proofs.memory_laws.spent_answers_full.Goals as goal

pub returns : goal.returns
returns c = spent-answers
