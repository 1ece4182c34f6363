use Rattle.bz_tally.proofs.Proved as proved
use Rattle.bz_tally.proofs.laws.deletes_take_one_record.Goals as goal

pub returns : goal.returns
returns c = proved.deletes_take_one_record
