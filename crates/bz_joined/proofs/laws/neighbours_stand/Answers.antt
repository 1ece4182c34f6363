use Rattle.bz_joined.proofs.Proved as proved
use Rattle.bz_joined.proofs.laws.neighbours_stand.Goals as goal

pub returns : goal.returns
returns c = proved.neighbours_stand
