use Rattle.bz_rounds.proofs.Proved as proved
use Rattle.bz_rounds.proofs.laws.undisturbed_key_views_tell_the_stage.Goals as goal

pub returns : goal.returns
returns c = proved.undisturbed_key_views_tell_the_stage
