use Rattle.bz_record.proofs.Proved as proved
use Rattle.bz_record.proofs.laws.changes_may_be_asked.Goals as goal

pub returns : goal.returns
returns c = proved.changes_may_be_asked
