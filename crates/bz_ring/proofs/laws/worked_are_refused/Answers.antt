use Rattle.bz_ring.proofs.Examples.{worked_are_refused}
use Rattle.bz_ring.proofs.laws.worked_are_refused.Goals as goal

pub returns : goal.returns
returns c = worked_are_refused
