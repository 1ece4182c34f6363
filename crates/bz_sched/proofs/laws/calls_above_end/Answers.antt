use Rattle.bz_sched.proofs.Proved as proved
use Rattle.bz_sched.proofs.laws.calls_above_end.Goals as goal

pub returns : goal.returns
returns c = proved.calls_above_end
