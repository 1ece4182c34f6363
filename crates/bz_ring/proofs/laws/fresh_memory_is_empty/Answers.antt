use Rattle.bz_ring.proofs.FreshRings.{fresh_memory_is_empty}
use Rattle.bz_ring.proofs.laws.fresh_memory_is_empty.Goals as goal

pub returns : goal.returns
returns c = fresh_memory_is_empty
