use Rattle.bz_task.proofs.Proved as proved
use Rattle.bz_task.proofs.laws.swaps_show_in_slots.Goals as goal

pub returns : goal.returns
returns c = proved.swaps_show_in_slots
