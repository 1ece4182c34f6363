use Rattle.bz_halves.proofs.Proved as proved
use Rattle.bz_halves.proofs.laws.children_may_be_parted.Goals as goal

pub returns : goal.returns
returns c = proved.children_may_be_parted
