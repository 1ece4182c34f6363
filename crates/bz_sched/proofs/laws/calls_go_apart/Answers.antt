use Rattle.bz_sched.proofs.Proved as proved
use Rattle.bz_sched.proofs.laws.calls_go_apart.Goals as goal

pub returns : goal.returns
returns c = proved.calls_go_apart
