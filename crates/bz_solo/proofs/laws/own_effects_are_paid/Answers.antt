use Rattle.bz_solo.proofs.Proved as proved
use Rattle.bz_solo.proofs.laws.own_effects_are_paid.Goals as goal

pub returns : goal.returns
returns c = proved.own_effects_are_paid
