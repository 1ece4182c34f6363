use Rattle.bz_swap_machine.proofs.Proved as proved
use Rattle.bz_swap_machine.proofs.laws.stays_bounded.Goals as goal

pub returns : goal.returns
returns c = proved.stays_bounded
