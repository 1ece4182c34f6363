use Rattle.bz_sound.proofs.Memory.OneHistory.{unbroken-history}
use Rattle.bz_sound.proofs.memory_laws.one_history.Goals as goal

pub returns : goal.returns
returns c = unbroken-history
