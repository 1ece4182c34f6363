use Rattle.std.proofs.Common.{refl}
use Rattle.bz_swap.specs.Inside.Parts.{Parts}
use Rattle.bz_swap.proofs.Alone.{allowed-fits}
use Rattle.bz_swap.proofs.SeenSwaps.{swap-started}
use Rattle.bz_swap.proofs.Stepping.{step-holds}
use Rattle.bz_swap.proofs.access.Access.start_swap.Goals as goal

pub started-self-inside-requires-clause-all : goal.started-self-inside-requires-clause-all
started-self-inside-requires-clause-all c =
    let p : Parts = record { store = c.self.inside.cells; workers = c.self.inside.workers.items; phase = c.self.inside.phase; steps = c.self.inside.steps; allowance = c.self.inside.allowance } in
    allowed-fits p c.self.invariant

pub returns-in_default-clause-held : goal.returns-in_default-clause-held
returns-in_default-clause-held c =
    let p : Parts = record { store = c.self.inside.cells; workers = c.self.inside.workers.items; phase = c.self.inside.phase; steps = c.self.inside.steps; allowance = c.self.inside.allowance } in
    let none = c.in_default.ensures in
    rw none.1 (step-holds p c.self.invariant)

pub invariant_of-self-2 : goal.invariant_of-self-2
invariant_of-self-2 c =
    let p : Parts = record { store = c.self.inside.cells; workers = c.self.inside.workers.items; phase = c.self.inside.phase; steps = c.self.inside.steps; allowance = c.self.inside.allowance } in
    let may = rw (← c.self.view_is) at c.requires in
    let took = c.in-Some.ensures in
    rw (c.started-self-inside.ensures, took.0, took.2) (swap-started p c.self.invariant c.args.w c.words-worker.result c.args.entries may c.words-worker.ensures.list c.words-worker.ensures.entries took.1).kept

pub returns-clause-begun : goal.returns-clause-begun
returns-clause-begun c =
    let p : Parts = record { store = c.self.inside.cells; workers = c.self.inside.workers.items; phase = c.self.inside.phase; steps = c.self.inside.steps; allowance = c.self.inside.allowance } in
    let may = rw (← c.self.view_is) at c.requires in
    let took = c.in-Some.ensures in
    rw (c.started-self-inside.ensures, took.0, took.2, ← c.self.view_is) (refl, took.1, (swap-started p c.self.invariant c.args.w c.words-worker.result c.args.entries may c.words-worker.ensures.list c.words-worker.ensures.entries took.1).is)

pub returns-clause-held : goal.returns-clause-held
returns-clause-held c =
    let p : Parts = record { store = c.self.inside.cells; workers = c.self.inside.workers.items; phase = c.self.inside.phase; steps = c.self.inside.steps; allowance = c.self.inside.allowance } in
    let may = rw (← c.self.view_is) at c.requires in
    let took = c.in-Some.ensures in
    rw (c.started-self-inside.ensures, took.0, took.2) (swap-started p c.self.invariant c.args.w c.words-worker.result c.args.entries may c.words-worker.ensures.list c.words-worker.ensures.entries took.1).holds
