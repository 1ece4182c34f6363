use Rattle.bz_solo.proofs.Proved as proved
use Rattle.bz_solo.proofs.laws.effect_marks_are_paid.Goals as goal

pub returns : goal.returns
returns c = proved.effect_marks_are_paid
