use Rattle.bz_swap_machine.proofs.Proved as proved
use Rattle.bz_swap_machine.proofs.laws.cut_recovers.Goals as goal

pub returns : goal.returns
returns c = proved.cut_recovers
