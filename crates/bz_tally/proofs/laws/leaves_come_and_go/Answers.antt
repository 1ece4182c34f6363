use Rattle.bz_tally.proofs.Proved as proved
use Rattle.bz_tally.proofs.laws.leaves_come_and_go.Goals as goal

pub returns : goal.returns
returns c = proved.leaves_come_and_go
