use Rattle.std.proofs.Common.{arith}
use Rattle.bz_swap_cells.proofs.Rooms.{room-store}
use Rattle.bz_swap_cells.proofs.cells.Cells.store.Goals as goal

pub invariant_of-self : goal.invariant_of-self
invariant_of-self c =
    let within = rw (← c.self.view_is) at c.requires in
    rw c.store.ensures (room-store _ c.args.a c.args.value c.self.invariant within (omega (arith, c.ranges.value)))

pub returns-clause-room : goal.returns-clause-room
returns-clause-room c =
    let within = rw (← c.self.view_is) at c.requires in
    rw c.store.ensures (room-store _ c.args.a c.args.value c.self.invariant within (omega (arith, c.ranges.value)))
