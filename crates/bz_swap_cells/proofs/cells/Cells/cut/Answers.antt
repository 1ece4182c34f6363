use Rattle.bz_swap_cells.proofs.Rooms.{room-cut}
use Rattle.bz_swap_cells.proofs.cells.Cells.cut.Goals as goal

pub invariant_of-self : goal.invariant_of-self
invariant_of-self c = rw c.cut.ensures (room-cut _ c.self.invariant)

pub returns-clause-room : goal.returns-clause-room
returns-clause-room c = rw c.cut.ensures (room-cut _ c.self.invariant)
