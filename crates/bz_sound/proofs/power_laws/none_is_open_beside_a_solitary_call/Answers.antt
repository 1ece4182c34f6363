use Rattle.bz_sound.proofs.Proved as proved
use Rattle.bz_sound.proofs.power_laws.none_is_open_beside_a_solitary_call.Goals as goal

pub returns : goal.returns
returns c = proved.none_is_open_beside_a_solitary_call
