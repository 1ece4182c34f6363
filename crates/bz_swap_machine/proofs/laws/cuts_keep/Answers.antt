use Rattle.bz_swap_machine.proofs.Proved as proved
use Rattle.bz_swap_machine.proofs.laws.cuts_keep.Goals as goal

pub returns : goal.returns
returns c = proved.cuts_keep
