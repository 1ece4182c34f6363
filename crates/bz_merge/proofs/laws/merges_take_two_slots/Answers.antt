use Rattle.bz_merge.proofs.Proved as proved
use Rattle.bz_merge.proofs.laws.merges_take_two_slots.Goals as goal

pub returns : goal.returns
returns c = proved.merges_take_two_slots
