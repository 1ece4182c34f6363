use Rattle.bz_ring.proofs.Solitary.{none_is_open_beside}
use Rattle.bz_ring.proofs.laws.none_is_open_beside.Goals as goal

pub returns : goal.returns
returns c = none_is_open_beside
