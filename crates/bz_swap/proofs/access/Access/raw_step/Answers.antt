use Rattle.bz_swap.specs.Inside.Parts.{Parts}
use Rattle.bz_swap.proofs.RawSteps.{recovers-at, raw-asks, raw-kept, raw-seen}
use Rattle.bz_swap.proofs.Stepping.{worker-read, workers-within}
use Rattle.bz_swap.proofs.access.Access.raw_step.Goals as goal

pub raw_act-acted-requires-clause-asker : goal.raw_act-acted-requires-clause-asker
raw_act-acted-requires-clause-asker c =
    let p : Parts = record { store = c.self.inside.cells; workers = c.self.inside.workers.items; phase = c.self.inside.phase; steps = c.self.inside.steps; allowance = c.self.inside.allowance } in
    let within = rw (← c.self.view_is) at c.requires.worker in
    raw-asks p c.self.invariant c.args.w (rw (← c.self.view_is) at c.requires.phase) (workers-within p c.args.w within) (rw (← c.self.view_is) at c.requires.busy) (rw (← c.self.view_is) at c.requires.steps)

pub raw_act-acted-requires-clause-lies : goal.raw_act-acted-requires-clause-lies
raw_act-acted-requires-clause-lies c =
    let p : Parts = record { store = c.self.inside.cells; workers = c.self.inside.workers.items; phase = c.self.inside.phase; steps = c.self.inside.steps; allowance = c.self.inside.allowance } in
    let within = rw (← c.self.view_is) at c.requires.worker in
    let busy = rw (← c.self.view_is) at c.requires.busy in
    let phase = rw (← c.self.view_is) at c.requires.phase in
    let is = worker-read p c.args.w c.index-worker.result.now (workers-within p c.args.w within) c.index-worker.ensures in
    (recovers-at p c.self.invariant c.args.w c.index-worker.result.now phase busy is).0

pub raw_act-acted-requires-clause-busy : goal.raw_act-acted-requires-clause-busy
raw_act-acted-requires-clause-busy c =
    let p : Parts = record { store = c.self.inside.cells; workers = c.self.inside.workers.items; phase = c.self.inside.phase; steps = c.self.inside.steps; allowance = c.self.inside.allowance } in
    let within = rw (← c.self.view_is) at c.requires.worker in
    let busy = rw (← c.self.view_is) at c.requires.busy in
    let phase = rw (← c.self.view_is) at c.requires.phase in
    let is = worker-read p c.args.w c.index-worker.result.now (workers-within p c.args.w within) c.index-worker.ensures in
    (recovers-at p c.self.invariant c.args.w c.index-worker.result.now phase busy is).1

pub invariant_of-self : goal.invariant_of-self
invariant_of-self c =
    let p : Parts = record { store = c.self.inside.cells; workers = c.self.inside.workers.items; phase = c.self.inside.phase; steps = c.self.inside.steps; allowance = c.self.inside.allowance } in
    let within = rw (← c.self.view_is) at c.requires.worker in
    let busy = rw (← c.self.view_is) at c.requires.busy in
    let phase = rw (← c.self.view_is) at c.requires.phase in
    let is = worker-read p c.args.w c.index-worker.result.now (workers-within p c.args.w within) c.index-worker.ensures in
    rw (c.stepped-self-inside.ensures, c.place_after-worker.ensures) (raw-kept p c.self.invariant c.args.w c.raw_act-acted.new.cells c.index-worker.result.now c.raw_act-acted.result phase within busy is c.raw_act-acted.ensures)

pub returns : goal.returns
returns c =
    let p : Parts = record { store = c.self.inside.cells; workers = c.self.inside.workers.items; phase = c.self.inside.phase; steps = c.self.inside.steps; allowance = c.self.inside.allowance } in
    let within = rw (← c.self.view_is) at c.requires.worker in
    let busy = rw (← c.self.view_is) at c.requires.busy in
    let phase = rw (← c.self.view_is) at c.requires.phase in
    let is = worker-read p c.args.w c.index-worker.result.now (workers-within p c.args.w within) c.index-worker.ensures in
    rw (c.stepped-self-inside.ensures, c.place_after-worker.ensures, ← c.self.view_is) (raw-seen p c.self.invariant c.args.w c.raw_act-acted.new.cells c.index-worker.result.now c.raw_act-acted.result phase within busy (rw (← c.self.view_is) at c.requires.steps) is c.raw_act-acted.ensures)
