use Rattle.bz_rounds.proofs.Proved as proved
use Rattle.bz_rounds.proofs.laws.undisturbed_ascents_are_due.Goals as goal

pub returns : goal.returns
returns c = proved.undisturbed_ascents_are_due
