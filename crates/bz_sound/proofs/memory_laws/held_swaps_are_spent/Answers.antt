use Rattle.bz_sound.proofs.Memory.Held.{held-spent}
use Rattle.bz_sound.proofs.memory_laws.held_swaps_are_spent.Goals as goal

pub returns : goal.returns
returns c = held-spent
