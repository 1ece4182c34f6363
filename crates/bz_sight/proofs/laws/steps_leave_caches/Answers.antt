use Rattle.bz_sight.proofs.Proved as proved
use Rattle.bz_sight.proofs.laws.steps_leave_caches.Goals as goal

pub returns : goal.returns
returns c = proved.steps_leave_caches
