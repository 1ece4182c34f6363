use Rattle.bz_merge.proofs.Proved as proved
use Rattle.bz_merge.proofs.laws.leaves_read_were.Goals as goal

pub returns : goal.returns
returns c = proved.leaves_read_were
