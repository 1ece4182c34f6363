use Rattle.bz_sound.proofs.Memory.HeldSlots.{slots-spent}
use Rattle.bz_sound.proofs.memory_laws.held_slots_are_spent.Goals as goal

pub returns : goal.returns
returns c = slots-spent
