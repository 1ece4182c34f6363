use Rattle.bz_rounds.proofs.Proved as proved
use Rattle.bz_rounds.proofs.laws.stages_stand.Goals as goal

pub returns : goal.returns
returns c = proved.stages_stand
