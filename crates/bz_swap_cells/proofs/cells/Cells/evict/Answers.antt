use Rattle.bz_swap_cells.proofs.Rooms.{room-evict}
use Rattle.bz_swap_cells.proofs.cells.Cells.evict.Goals as goal

pub invariant_of-self : goal.invariant_of-self
invariant_of-self c =
    let within = rw (← c.self.view_is) at c.requires in
    rw c.evict.ensures (room-evict _ c.args.a c.self.invariant within)

pub returns-clause-room : goal.returns-clause-room
returns-clause-room c =
    let within = rw (← c.self.view_is) at c.requires in
    rw c.evict.ensures (room-evict _ c.args.a c.self.invariant within)
