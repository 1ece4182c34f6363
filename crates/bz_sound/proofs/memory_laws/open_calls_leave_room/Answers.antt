use Rattle.bz_sound.proofs.Memory.RoomLeft.{room-left}
use Rattle.bz_sound.proofs.memory_laws.open_calls_leave_room.Goals as goal

pub returns : goal.returns
returns c = room-left
