use Rattle.bz_swap_machine.proofs.Proved as proved
use Rattle.bz_swap_machine.proofs.laws.all_stay_rising.Goals as goal

pub returns : goal.returns
returns c = proved.all_stay_rising
