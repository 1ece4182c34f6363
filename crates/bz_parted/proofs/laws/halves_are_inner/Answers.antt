use Rattle.bz_parted.proofs.Proved as proved
use Rattle.bz_parted.proofs.laws.halves_are_inner.Goals as goal

pub returns : goal.returns
returns c = proved.halves_are_inner
