use Rattle.bz_rounds.proofs.Proved as proved
use Rattle.bz_rounds.proofs.laws.undisturbed_views_tell_the_stage.Goals as goal

pub returns : goal.returns
returns c = proved.undisturbed_views_tell_the_stage
