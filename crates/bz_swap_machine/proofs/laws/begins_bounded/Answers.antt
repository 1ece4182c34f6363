use Rattle.bz_swap_machine.proofs.Proved as proved
use Rattle.bz_swap_machine.proofs.laws.begins_bounded.Goals as goal

pub returns : goal.returns
returns c = proved.begins_bounded
