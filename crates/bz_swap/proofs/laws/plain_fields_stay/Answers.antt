use Rattle.bz_swap.proofs.Proved as proved
use Rattle.bz_swap.proofs.laws.plain_fields_stay.Goals as goal

pub returns : goal.returns
returns c = proved.plain_fields_stay
