use Rattle.bz_swap_machine.proofs.Proved as proved
use Rattle.bz_swap_machine.proofs.laws.owners_stay.Goals as goal

pub returns : goal.returns
returns c = proved.owners_stay
