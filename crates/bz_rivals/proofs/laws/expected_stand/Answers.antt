use Rattle.bz_rivals.proofs.Proved as proved
use Rattle.bz_rivals.proofs.laws.expected_stand.Goals as goal

pub returns : goal.returns
returns c = proved.expected_stand
