use Rattle.bz_ring.proofs.Changes.{takes_drop}
use Rattle.bz_ring.proofs.laws.takes_drop.Goals as goal

pub returns : goal.returns
returns c = takes_drop
