use Rattle.bz_swap_cells.proofs.Rooms.{room-fence}
use Rattle.bz_swap_cells.proofs.cells.Cells.settle.Goals as goal

pub invariant_of-self : goal.invariant_of-self
invariant_of-self c =
    let worker = rw (← c.self.view_is) at c.requires in
    rw c.fence.ensures (room-fence _ c.args.w c.self.invariant worker)

pub returns-clause-room : goal.returns-clause-room
returns-clause-room c =
    let worker = rw (← c.self.view_is) at c.requires in
    rw c.fence.ensures (room-fence _ c.args.w c.self.invariant worker)
