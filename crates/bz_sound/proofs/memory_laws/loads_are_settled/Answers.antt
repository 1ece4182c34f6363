use Rattle.bz_sound.proofs.Memory.Settled.{loads-settled}
use Rattle.bz_sound.proofs.memory_laws.loads_are_settled.Goals as goal

pub returns : goal.returns
returns c = loads-settled
