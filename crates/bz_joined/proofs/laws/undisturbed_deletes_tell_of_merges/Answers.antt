use Rattle.bz_joined.proofs.Proved as proved
use Rattle.bz_joined.proofs.laws.undisturbed_deletes_tell_of_merges.Goals as goal

pub returns : goal.returns
returns c = proved.undisturbed_deletes_tell_of_merges
