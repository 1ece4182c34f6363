use Rattle.bz_sound.proofs.Proved as proved
use Rattle.bz_sound.proofs.power_laws.open_calls_leave_room.Goals as goal

pub returns : goal.returns
returns c = proved.open_calls_leave_room
