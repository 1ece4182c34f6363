use Rattle.std.proofs.Common.{sym, ◌∙◌}
use Rattle.bz_swap.specs.Inside.Parts.{Parts}
use Rattle.bz_swap.proofs.Alone.{left-seen}
use Rattle.bz_swap.proofs.access.Access.left.Goals as goal

pub returns : goal.returns
returns c =
    let p : Parts = record { store = c.self.inside.cells; workers = c.self.inside.workers.items; phase = c.self.inside.phase; steps = c.self.inside.steps; allowance = c.self.inside.allowance } in
    rw (← c.self.view_is) (c.left_to.ensures ∙ sym (left-seen p c.self.invariant c.args.w))
