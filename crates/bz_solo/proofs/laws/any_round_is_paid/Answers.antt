use Rattle.bz_solo.proofs.Proved as proved
use Rattle.bz_solo.proofs.laws.any_round_is_paid.Goals as goal

pub returns : goal.returns
returns c = proved.any_round_is_paid
