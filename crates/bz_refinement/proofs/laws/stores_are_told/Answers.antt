use Rattle.bz_refinement.proofs.Proved as proved
use Rattle.bz_refinement.proofs.laws.stores_are_told.Goals as goal

pub returns : goal.returns
returns c = proved.stores_are_told
