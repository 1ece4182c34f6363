use Rattle.bz_solo.proofs.Proved as proved
use Rattle.bz_solo.proofs.laws.hearings_are_paid.Goals as goal

pub returns : goal.returns
returns c = proved.hearings_are_paid
