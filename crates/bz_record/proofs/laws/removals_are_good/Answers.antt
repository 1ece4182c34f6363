use Rattle.bz_record.proofs.Proved as proved
use Rattle.bz_record.proofs.laws.removals_are_good.Goals as goal

pub returns : goal.returns
returns c = proved.removals_are_good
