use Rattle.bz_swap.proofs.Proved as proved
use Rattle.bz_swap.proofs.laws.taken_statuses_stay.Goals as goal

pub returns : goal.returns
returns c = proved.taken_statuses_stay
