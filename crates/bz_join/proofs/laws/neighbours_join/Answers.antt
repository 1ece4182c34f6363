use Rattle.bz_join.proofs.Proved as proved
use Rattle.bz_join.proofs.laws.neighbours_join.Goals as goal

pub returns : goal.returns
returns c = proved.neighbours_join
