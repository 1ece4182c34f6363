use Rattle.bz_solo.proofs.Proved as proved
use Rattle.bz_solo.proofs.laws.quiet_steps_are_paid.Goals as goal

pub returns : goal.returns
returns c = proved.quiet_steps_are_paid
