use Rattle.bz_joined.proofs.Proved as proved
use Rattle.bz_joined.proofs.laws.known_leaves_stay.Goals as goal

pub returns : goal.returns
returns c = proved.known_leaves_stay
