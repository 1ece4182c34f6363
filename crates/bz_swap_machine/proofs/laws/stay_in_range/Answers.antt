use Rattle.bz_swap_machine.proofs.Proved as proved
use Rattle.bz_swap_machine.proofs.laws.stay_in_range.Goals as goal

pub returns : goal.returns
returns c = proved.stay_in_range
