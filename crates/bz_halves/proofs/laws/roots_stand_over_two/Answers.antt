use Rattle.bz_halves.proofs.Proved as proved
use Rattle.bz_halves.proofs.laws.roots_stand_over_two.Goals as goal

pub returns : goal.returns
returns c = proved.roots_stand_over_two
