use Rattle.bz_fork.proofs.Halving.{full-nodes-have-halves}
use Rattle.bz_fork.proofs.laws.full_nodes_have_halves.Goals as goal

pub returns : goal.returns
returns c = full-nodes-have-halves c.children_part_in_halves.ensures c.halves_are_inner.ensures
