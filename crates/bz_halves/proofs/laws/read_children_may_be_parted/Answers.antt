use Rattle.bz_halves.proofs.Proved as proved
use Rattle.bz_halves.proofs.laws.read_children_may_be_parted.Goals as goal

pub returns : goal.returns
returns c = proved.read_children_may_be_parted
