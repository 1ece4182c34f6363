use Rattle.bz_solo.proofs.Proved as proved
use Rattle.bz_solo.proofs.laws.tasks_may_begin.Goals as goal

pub returns : goal.returns
returns c = proved.tasks_may_begin
