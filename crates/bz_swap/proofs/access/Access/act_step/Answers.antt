use Rattle.std.proofs.Common.{sym, subst}
use Rattle.bz_swap_machine.specs.declared.worker.Worker.{Worker}
use Rattle.bz_swap.specs.Steps.{IsStep}
use Rattle.bz_swap.specs.Inside.Parts.{Parts, seen}
use Rattle.bz_swap.specs.Inside.Kept.{IsRunning}
use Rattle.bz_swap.proofs.SeenActs.{step-seen}
use Rattle.bz_swap.proofs.SeenSteps.{told_effect}
use Rattle.bz_swap.proofs.Stepped.{after_step}
use Rattle.bz_swap.proofs.Stepping.{running, worker-read, may-step, step-kept, step-holds, acts-read, made-read, ready-read}
use Rattle.bz_swap.proofs.access.Access.act_step.Goals as goal

pub act-acted-requires-clause-ready : goal.act-acted-requires-clause-ready
act-acted-requires-clause-ready c =
    let p : Parts = record { store = c.self.inside.cells; workers = c.self.inside.workers.items; phase = c.self.inside.phase; steps = c.self.inside.steps; allowance = c.self.inside.allowance } in
    let phase = rw (← c.self.view_is) at c.requires.phase in
    let may = may-step p c.self.invariant c.args.w phase (rw (← c.self.view_is) at c.requires.worker) (rw (← c.self.view_is) at c.requires.busy) (rw (← c.self.view_is) at c.requires.steps) in
    ready-read p (running p.phase p phase c.self.invariant.kept) c.args.w c.index.result.now (worker-read p c.args.w c.index.result.now may.within c.index.ensures) may c.self.invariant.workers

pub invariant_of-self : goal.invariant_of-self
invariant_of-self c =
    let p : Parts = record { store = c.self.inside.cells; workers = c.self.inside.workers.items; phase = c.self.inside.phase; steps = c.self.inside.steps; allowance = c.self.inside.allowance } in
    let phase = rw (← c.self.view_is) at c.requires.phase in
    let may = may-step p c.self.invariant c.args.w phase (rw (← c.self.view_is) at c.requires.worker) (rw (← c.self.view_is) at c.requires.busy) (rw (← c.self.view_is) at c.requires.steps) in
    let r : IsRunning p = running p.phase p phase c.self.invariant.kept in
    let is = worker-read p c.args.w c.index.result.now may.within c.index.ensures in
    let told = c.act-acted.ensures in
    let m = made-read p c.args.w c.index.result.now c.act-acted.new.cells c.act-acted.result.act is told.words told.within told.flush told.told told.writes in
    let a = acts-read p r.beside c.args.w c.index.result.now c.act-acted.new.cells c.act-acted.new.worker c.act-acted.result.done is (told.local r.beside) (told.done r.beside) (told.memory r.beside) told.typed told.shape c.act-acted.result.act m in
    rw c.stepped-self-inside.ensures (step-kept p c.self.invariant c.args.w c.act-acted.new.cells c.act-acted.new.worker c.act-acted.result.done phase may a)

pub returns-clause-step : goal.returns-clause-step
returns-clause-step c =
    let p : Parts = record { store = c.self.inside.cells; workers = c.self.inside.workers.items; phase = c.self.inside.phase; steps = c.self.inside.steps; allowance = c.self.inside.allowance } in
    let phase = rw (← c.self.view_is) at c.requires.phase in
    let may = may-step p c.self.invariant c.args.w phase (rw (← c.self.view_is) at c.requires.worker) (rw (← c.self.view_is) at c.requires.busy) (rw (← c.self.view_is) at c.requires.steps) in
    let r : IsRunning p = running p.phase p phase c.self.invariant.kept in
    let is = worker-read p c.args.w c.index.result.now may.within c.index.ensures in
    let told = c.act-acted.ensures in
    let m = made-read p c.args.w c.index.result.now c.act-acted.new.cells c.act-acted.result.act is told.words told.within told.flush told.told told.writes in
    let a = acts-read p r.beside c.args.w c.index.result.now c.act-acted.new.cells c.act-acted.new.worker c.act-acted.result.done is (told.local r.beside) (told.done r.beside) (told.memory r.beside) told.typed told.shape c.act-acted.result.act m in
    rw (c.stepped-self-inside.ensures, c.told_effect.ensures, c.has_effect-had_effect.ensures, c.has_effect-has_effect.ensures, ← c.self.view_is) (subst (λ (u : Worker). IsStep (seen p) c.args.w c.act-acted.result.act c.act-acted.result.done (told_effect p.store c.act-acted.new.cells u.current) (seen (after_step p c.args.w c.act-acted.new.cells c.act-acted.new.worker))) (sym is)
    (step-seen p r c.args.w c.act-acted.new.cells c.act-acted.new.worker c.act-acted.result.done c.act-acted.result.act may phase a m))

pub returns-clause-held : goal.returns-clause-held
returns-clause-held c =
    let p : Parts = record { store = c.self.inside.cells; workers = c.self.inside.workers.items; phase = c.self.inside.phase; steps = c.self.inside.steps; allowance = c.self.inside.allowance } in
    let phase = rw (← c.self.view_is) at c.requires.phase in
    let may = may-step p c.self.invariant c.args.w phase (rw (← c.self.view_is) at c.requires.worker) (rw (← c.self.view_is) at c.requires.busy) (rw (← c.self.view_is) at c.requires.steps) in
    let r : IsRunning p = running p.phase p phase c.self.invariant.kept in
    let is = worker-read p c.args.w c.index.result.now may.within c.index.ensures in
    let told = c.act-acted.ensures in
    let m = made-read p c.args.w c.index.result.now c.act-acted.new.cells c.act-acted.result.act is told.words told.within told.flush told.told told.writes in
    let a = acts-read p r.beside c.args.w c.index.result.now c.act-acted.new.cells c.act-acted.new.worker c.act-acted.result.done is (told.local r.beside) (told.done r.beside) (told.memory r.beside) told.typed told.shape c.act-acted.result.act m in
    rw c.stepped-self-inside.ensures (step-holds _ (step-kept p c.self.invariant c.args.w c.act-acted.new.cells c.act-acted.new.worker c.act-acted.result.done phase may a))
