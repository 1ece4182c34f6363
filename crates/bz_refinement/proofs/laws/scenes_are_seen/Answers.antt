use Rattle.bz_refinement.proofs.Proved as proved
use Rattle.bz_refinement.proofs.laws.scenes_are_seen.Goals as goal

pub returns : goal.returns
returns c = proved.scenes_are_seen
