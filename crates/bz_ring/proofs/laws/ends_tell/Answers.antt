use Rattle.bz_ring.proofs.Ends.{ends_tell}
use Rattle.bz_ring.proofs.laws.ends_tell.Goals as goal

pub returns : goal.returns
returns c = ends_tell
