use Rattle.std.proofs.Common.{arith}
use Rattle.bz_swap_cells.proofs.Notes.{typed-missed}
use Rattle.bz_swap_cells.proofs.cells.Cells.note_miss.Goals as goal

pub returns-clause-changed : goal.returns-clause-changed
returns-clause-changed c = λ b.
    let below = rw (← c.self.view_is) at c.requires.descriptor in
    rw (← c.self.view_is) (typed-missed _ b c.args.swap _ (omega (arith, c.self.invariant.noted, below)) (rw (← c.self.view_is) at c.note_after_miss-noted.ensures))
