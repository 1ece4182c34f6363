use Rattle.bz_swap_machine.proofs.Proved as proved
use Rattle.bz_swap_machine.proofs.laws.places_count.Goals as goal

pub returns : goal.returns
returns c = proved.places_count
