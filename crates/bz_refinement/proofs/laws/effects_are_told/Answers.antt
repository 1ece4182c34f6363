use Rattle.bz_refinement.proofs.Proved as proved
use Rattle.bz_refinement.proofs.laws.effects_are_told.Goals as goal

pub returns : goal.returns
returns c = proved.effects_are_told
