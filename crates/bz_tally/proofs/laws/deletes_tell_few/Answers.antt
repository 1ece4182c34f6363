use Rattle.bz_tally.proofs.Proved as proved
use Rattle.bz_tally.proofs.laws.deletes_tell_few.Goals as goal

pub returns : goal.returns
returns c = proved.deletes_tell_few
