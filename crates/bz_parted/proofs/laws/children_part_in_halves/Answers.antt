use Rattle.bz_parted.proofs.Proved as proved
use Rattle.bz_parted.proofs.laws.children_part_in_halves.Goals as goal

pub returns : goal.returns
returns c = proved.children_part_in_halves
