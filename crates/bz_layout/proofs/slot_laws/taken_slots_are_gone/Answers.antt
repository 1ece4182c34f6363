use Rattle.bz_layout.proofs.Laws as proved
use Rattle.bz_layout.proofs.slot_laws.taken_slots_are_gone.Goals as goal

pub returns : goal.returns
returns c = proved.taken_slots_are_gone
