use Rattle.bz_swap.proofs.Proved as proved
use Rattle.bz_swap.proofs.laws.access_is_atomic.Goals as goal

pub returns : goal.returns
returns c = proved.access_is_atomic
