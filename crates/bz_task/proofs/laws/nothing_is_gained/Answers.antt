use Rattle.bz_task.proofs.Proved as proved
use Rattle.bz_task.proofs.laws.nothing_is_gained.Goals as goal

pub returns : goal.returns
returns c = proved.nothing_is_gained
