use Rattle.bz_ring.proofs.Examples.{full_by_two_loads}
use Rattle.bz_ring.proofs.laws.full_by_two_loads.Goals as goal

pub returns : goal.returns
returns c = full_by_two_loads
