use Rattle.bz_swap_machine.proofs.Proved as proved
use Rattle.bz_swap_machine.proofs.laws.budgets_are_allowed.Goals as goal

pub returns : goal.returns
returns c = proved.budgets_are_allowed
