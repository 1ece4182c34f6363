-- What this crate proves, as lemmas that other crates cite by these names.
use Rattle.bz_fork.proofs.Briefness.{costs-little}
use Rattle.bz_fork.specs.Duties.{WantOfRoomCostsLittle}

-- where a split ends for want of room, it has read at most the node and one word of the parent
pub want_of_room_costs_little : WantOfRoomCostsLittle
want_of_room_costs_little = costs-little
