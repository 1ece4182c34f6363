use Rattle.bz_undisturbed.proofs.Proved as proved
use Rattle.bz_undisturbed.proofs.laws.undisturbed_tasks_go_on.Goals as goal

pub returns : goal.returns
returns c = proved.undisturbed_tasks_go_on
