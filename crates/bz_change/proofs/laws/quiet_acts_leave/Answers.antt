use Rattle.bz_change.proofs.Settling.{quiet_acts_leave}
use Rattle.bz_change.proofs.laws.quiet_acts_leave.Goals as goal

pub returns : goal.returns
returns c = quiet_acts_leave
