use Rattle.bz_solo.proofs.Proved as proved
use Rattle.bz_solo.proofs.laws.disturbed_rounds_are_paid.Goals as goal

pub returns : goal.returns
returns c = proved.disturbed_rounds_are_paid
