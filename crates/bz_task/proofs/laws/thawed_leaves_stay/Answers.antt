use Rattle.bz_task.proofs.Proved as proved
use Rattle.bz_task.proofs.laws.thawed_leaves_stay.Goals as goal

pub returns : goal.returns
returns c = proved.thawed_leaves_stay
