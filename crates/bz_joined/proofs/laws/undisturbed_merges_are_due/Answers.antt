use Rattle.bz_joined.proofs.Proved as proved
use Rattle.bz_joined.proofs.laws.undisturbed_merges_are_due.Goals as goal

pub returns : goal.returns
returns c = proved.undisturbed_merges_are_due
