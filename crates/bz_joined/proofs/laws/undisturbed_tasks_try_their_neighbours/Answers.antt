use Rattle.bz_joined.proofs.Proved as proved
use Rattle.bz_joined.proofs.laws.undisturbed_tasks_try_their_neighbours.Goals as goal

pub returns : goal.returns
returns c = proved.undisturbed_tasks_try_their_neighbours
