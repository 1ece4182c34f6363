use Rattle.bz_record.proofs.Proved as proved
use Rattle.bz_record.proofs.laws.new_record_swaps_may_be_asked.Goals as goal

pub returns : goal.returns
returns c = proved.new_record_swaps_may_be_asked
