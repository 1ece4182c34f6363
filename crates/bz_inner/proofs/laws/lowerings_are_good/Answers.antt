use Rattle.bz_inner.proofs.Proved as proved
use Rattle.bz_inner.proofs.laws.lowerings_are_good.Goals as goal

pub returns : goal.returns
returns c = proved.lowerings_are_good
