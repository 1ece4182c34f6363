use Rattle.bz_swap_machine.proofs.Proved as proved
use Rattle.bz_swap_machine.proofs.laws.evictions_keep_budgets.Goals as goal

pub returns : goal.returns
returns c = proved.evictions_keep_budgets
