use Rattle.bz_swap_machine.proofs.Proved as proved
use Rattle.bz_swap_machine.proofs.laws.ends_stay_whole.Goals as goal

pub returns : goal.returns
returns c = proved.ends_stay_whole
