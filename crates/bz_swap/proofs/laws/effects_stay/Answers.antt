use Rattle.bz_swap.proofs.Proved as proved
use Rattle.bz_swap.proofs.laws.effects_stay.Goals as goal

pub returns : goal.returns
returns c = proved.effects_stay
