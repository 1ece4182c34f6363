use Rattle.bz_solo.proofs.Proved as proved
use Rattle.bz_solo.proofs.laws.renewals_are_paid.Goals as goal

pub returns : goal.returns
returns c = proved.renewals_are_paid
