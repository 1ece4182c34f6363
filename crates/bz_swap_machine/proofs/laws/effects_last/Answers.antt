use Rattle.bz_swap_machine.proofs.Proved as proved
use Rattle.bz_swap_machine.proofs.laws.effects_last.Goals as goal

pub returns : goal.returns
returns c = proved.effects_last
