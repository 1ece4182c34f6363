use Rattle.bz_stage.proofs.Proved as proved
use Rattle.bz_stage.proofs.laws.lacking_leaves_say.Goals as goal

pub returns : goal.returns
returns c = proved.lacking_leaves_say
