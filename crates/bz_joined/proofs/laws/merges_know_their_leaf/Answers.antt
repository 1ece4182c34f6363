use Rattle.bz_joined.proofs.Proved as proved
use Rattle.bz_joined.proofs.laws.merges_know_their_leaf.Goals as goal

pub returns : goal.returns
returns c = proved.merges_know_their_leaf
