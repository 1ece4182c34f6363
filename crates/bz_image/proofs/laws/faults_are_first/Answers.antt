use Rattle.bz_image.proofs.Proved as proved
use Rattle.bz_image.proofs.laws.faults_are_first.Goals as goal

pub returns : goal.returns
returns c = proved.faults_are_first
