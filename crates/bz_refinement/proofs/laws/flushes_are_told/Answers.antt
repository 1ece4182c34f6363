use Rattle.bz_refinement.proofs.Proved as proved
use Rattle.bz_refinement.proofs.laws.flushes_are_told.Goals as goal

pub returns : goal.returns
returns c = proved.flushes_are_told
