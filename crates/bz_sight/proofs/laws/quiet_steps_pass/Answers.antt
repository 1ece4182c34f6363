use Rattle.bz_sight.proofs.Proved as proved
use Rattle.bz_sight.proofs.laws.quiet_steps_pass.Goals as goal

pub returns : goal.returns
returns c = proved.quiet_steps_pass
