use Rattle.bz_swap_machine.proofs.Proved as proved
use Rattle.bz_swap_machine.proofs.laws.swaps_add_allowed.Goals as goal

pub returns : goal.returns
returns c = proved.swaps_add_allowed
