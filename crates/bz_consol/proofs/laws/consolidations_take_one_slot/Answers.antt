use Rattle.bz_consol.proofs.Proved as proved
use Rattle.bz_consol.proofs.laws.consolidations_take_one_slot.Goals as goal

pub returns : goal.returns
returns c = proved.consolidations_take_one_slot
