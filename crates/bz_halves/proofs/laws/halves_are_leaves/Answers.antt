use Rattle.bz_halves.proofs.Proved as proved
use Rattle.bz_halves.proofs.laws.halves_are_leaves.Goals as goal

pub returns : goal.returns
returns c = proved.halves_are_leaves
