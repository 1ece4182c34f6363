use Rattle.bz_swap_machine.proofs.Proved as proved
use Rattle.bz_swap_machine.proofs.laws.acts_spend.Goals as goal

pub returns : goal.returns
returns c = proved.acts_spend
