use Rattle.bz_recover.proofs.Proved as proved
use Rattle.bz_recover.proofs.laws.recoveries_know.Goals as goal

pub returns : goal.returns
returns c = proved.recoveries_know
