use Rattle.bz_swap_machine.proofs.Proved as proved
use Rattle.bz_swap_machine.proofs.laws.dirty_stay_home.Goals as goal

pub returns : goal.returns
returns c = proved.dirty_stay_home
