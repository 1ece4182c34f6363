use Rattle.bz_join.proofs.Proved as proved
use Rattle.bz_join.proofs.laws.children_join.Goals as goal

pub returns : goal.returns
returns c = proved.children_join
