use Rattle.bz_below.proofs.Proved as proved
use Rattle.bz_below.proofs.laws.read_parents_were.Goals as goal

pub returns : goal.returns
returns c = proved.read_parents_were
