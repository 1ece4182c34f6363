use Rattle.bz_task.proofs.Proved as proved
use Rattle.bz_task.proofs.laws.same_records_show_the_same.Goals as goal

pub returns : goal.returns
returns c = proved.same_records_show_the_same
