use Rattle.bz_refinement.proofs.Proved as proved
use Rattle.bz_refinement.proofs.laws.lives_go_on.Goals as goal

pub returns : goal.returns
returns c = proved.lives_go_on
