use Rattle.bz_swap_machine.proofs.Proved as proved
use Rattle.bz_swap_machine.proofs.laws.failures_last.Goals as goal

pub returns : goal.returns
returns c = proved.failures_last
