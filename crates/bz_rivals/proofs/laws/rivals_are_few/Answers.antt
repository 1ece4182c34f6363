use Rattle.bz_rivals.proofs.Proved as proved
use Rattle.bz_rivals.proofs.laws.rivals_are_few.Goals as goal

pub returns : goal.returns
returns c = proved.rivals_are_few
