use Rattle.bz_sound.proofs.Proved as proved
use Rattle.bz_sound.proofs.power_laws.loads_are_settled.Goals as goal

pub returns : goal.returns
returns c = proved.loads_are_settled
