use Rattle.bz_ring.proofs.Changes.{cells_tell_the_list}
use Rattle.bz_ring.proofs.laws.cells_tell_the_list.Goals as goal

pub returns : goal.returns
returns c = cells_tell_the_list
