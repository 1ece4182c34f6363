use Rattle.bz_ring.proofs.Examples.{worked_are_right}
use Rattle.bz_ring.proofs.laws.worked_are_right.Goals as goal

pub returns : goal.returns
returns c = worked_are_right
