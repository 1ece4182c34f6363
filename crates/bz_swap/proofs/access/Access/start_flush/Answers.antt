use Rattle.bz_swap.specs.Inside.Parts.{Parts}
use Rattle.bz_swap.proofs.Alone.{allowed-fits}
use Rattle.bz_swap.proofs.RawStarts.{flush-begun}
use Rattle.bz_swap.proofs.access.Access.start_flush.Goals as goal

pub started-self-inside-requires-clause-all : goal.started-self-inside-requires-clause-all
started-self-inside-requires-clause-all c =
    let p : Parts = record { store = c.self.inside.cells; workers = c.self.inside.workers.items; phase = c.self.inside.phase; steps = c.self.inside.steps; allowance = c.self.inside.allowance } in
    allowed-fits p c.self.invariant

pub invariant_of-self : goal.invariant_of-self
invariant_of-self c =
    let p : Parts = record { store = c.self.inside.cells; workers = c.self.inside.workers.items; phase = c.self.inside.phase; steps = c.self.inside.steps; allowance = c.self.inside.allowance } in
    let may = rw (← c.self.view_is) at c.requires in
    rw (c.phase_after-self-inside.ensures, c.started-self-inside.ensures) (flush-begun p c.self.invariant c.args.w c.args.line c.index-worker.result.now may c.index-worker.ensures).kept

pub returns-clause-started : goal.returns-clause-started
returns-clause-started c =
    let p : Parts = record { store = c.self.inside.cells; workers = c.self.inside.workers.items; phase = c.self.inside.phase; steps = c.self.inside.steps; allowance = c.self.inside.allowance } in
    let may = rw (← c.self.view_is) at c.requires in
    rw (c.phase_after-self-inside.ensures, c.started-self-inside.ensures, ← c.self.view_is) (flush-begun p c.self.invariant c.args.w c.args.line c.index-worker.result.now may c.index-worker.ensures).is

pub returns-clause-held : goal.returns-clause-held
returns-clause-held c =
    let p : Parts = record { store = c.self.inside.cells; workers = c.self.inside.workers.items; phase = c.self.inside.phase; steps = c.self.inside.steps; allowance = c.self.inside.allowance } in
    let may = rw (← c.self.view_is) at c.requires in
    rw (c.phase_after-self-inside.ensures, c.started-self-inside.ensures) (flush-begun p c.self.invariant c.args.w c.args.line c.index-worker.result.now may c.index-worker.ensures).holds
