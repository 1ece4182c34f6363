use Rattle.bz_sight.proofs.Proved as proved
use Rattle.bz_sight.proofs.laws.tasks_may_start.Goals as goal

pub returns : goal.returns
returns c = proved.tasks_may_start
