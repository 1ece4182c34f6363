use Rattle.bz_swap.proofs.Proved as proved
use Rattle.bz_swap.proofs.laws.begun_stay_taken.Goals as goal

pub returns : goal.returns
returns c = proved.begun_stay_taken
