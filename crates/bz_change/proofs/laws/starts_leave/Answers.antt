use Rattle.bz_change.proofs.Settling.{starts_leave}
use Rattle.bz_change.proofs.laws.starts_leave.Goals as goal

pub returns : goal.returns
returns c = starts_leave
