use Rattle.bz_task.proofs.Proved as proved
use Rattle.bz_task.proofs.laws.seen_leaves_are_whole.Goals as goal

pub returns : goal.returns
returns c = proved.seen_leaves_are_whole
