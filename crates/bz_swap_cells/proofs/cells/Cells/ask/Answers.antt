use Rattle.bz_swap_cells.proofs.Rooms.{room-ask}
use Rattle.bz_swap_cells.proofs.cells.Cells.ask.Goals as goal

pub invariant_of-self : goal.invariant_of-self
invariant_of-self c =
    let may = rw (← c.self.view_is) at c.requires.asker in
    let within = rw (← c.self.view_is) at c.requires.within in
    rw c.ask.ensures (room-ask _ c.args.w c.args.line c.self.invariant may within)

pub returns-clause-room : goal.returns-clause-room
returns-clause-room c =
    let may = rw (← c.self.view_is) at c.requires.asker in
    let within = rw (← c.self.view_is) at c.requires.within in
    rw c.ask.ensures (room-ask _ c.args.w c.args.line c.self.invariant may within)
