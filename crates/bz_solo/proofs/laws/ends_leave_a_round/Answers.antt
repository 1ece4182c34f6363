use Rattle.bz_solo.proofs.Proved as proved
use Rattle.bz_solo.proofs.laws.ends_leave_a_round.Goals as goal

pub returns : goal.returns
returns c = proved.ends_leave_a_round
