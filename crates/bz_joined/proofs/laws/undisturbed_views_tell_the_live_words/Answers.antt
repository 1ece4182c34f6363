use Rattle.bz_joined.proofs.Proved as proved
use Rattle.bz_joined.proofs.laws.undisturbed_views_tell_the_live_words.Goals as goal

pub returns : goal.returns
returns c = proved.undisturbed_views_tell_the_live_words
