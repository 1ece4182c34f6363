use Rattle.bz_solo.proofs.Proved as proved
use Rattle.bz_solo.proofs.laws.ways_are_paid.Goals as goal

pub returns : goal.returns
returns c = proved.ways_are_paid
