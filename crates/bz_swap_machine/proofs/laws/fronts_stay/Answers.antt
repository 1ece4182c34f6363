use Rattle.bz_swap_machine.proofs.Proved as proved
use Rattle.bz_swap_machine.proofs.laws.fronts_stay.Goals as goal

pub returns : goal.returns
returns c = proved.fronts_stay
