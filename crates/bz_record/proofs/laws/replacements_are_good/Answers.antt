use Rattle.bz_record.proofs.Proved as proved
use Rattle.bz_record.proofs.laws.replacements_are_good.Goals as goal

pub returns : goal.returns
returns c = proved.replacements_are_good
