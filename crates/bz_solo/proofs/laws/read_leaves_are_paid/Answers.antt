use Rattle.bz_solo.proofs.Proved as proved
use Rattle.bz_solo.proofs.laws.read_leaves_are_paid.Goals as goal

pub returns : goal.returns
returns c = proved.read_leaves_are_paid
