use Rattle.bz_halves.proofs.Proved as proved
use Rattle.bz_halves.proofs.laws.parents_of_halves_are_whole.Goals as goal

pub returns : goal.returns
returns c = proved.parents_of_halves_are_whole
