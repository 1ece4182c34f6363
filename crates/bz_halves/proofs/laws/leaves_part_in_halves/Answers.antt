use Rattle.bz_halves.proofs.Proved as proved
use Rattle.bz_halves.proofs.laws.leaves_part_in_halves.Goals as goal

pub returns : goal.returns
returns c = proved.leaves_part_in_halves
