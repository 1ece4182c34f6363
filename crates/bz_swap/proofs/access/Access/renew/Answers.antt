use Rattle.std.specs.Prelude.{◌≡◌, length, replicate}
use Rattle.std.proofs.Common.{ap, ◌∙◌}
use Rattle.bz_swap.specs.Inside.Parts.{Parts, idle_worker}
use Rattle.bz_swap.proofs.Renewing.{renewed_parts, renewed-fresh, renewed-kept, renewed-seen}
use Rattle.bz_swap.proofs.Stepping.{step-holds}
use Rattle.bz_swap.proofs.access.Access.renew.Goals as goal

pub invariant_of-self : goal.invariant_of-self
invariant_of-self c =
    let p : Parts = record { store = c.self.inside.cells; workers = c.self.inside.workers.items; phase = c.self.inside.phase; steps = c.self.inside.steps; allowance = c.self.inside.allowance } in
    let items : c.fill.new.self.items ≡ replicate (length p.workers) idle_worker = c.fill.ensures.items (λ y is. is) ∙ ap (λ n. replicate n c.idle_worker.result) c.self.inside.workers.ok.0 ∙ ap (replicate (length p.workers)) c.idle_worker.ensures in
    rw (c.renew.ensures, items) (renewed-kept p c.self.invariant (rw (← c.self.view_is) at c.requires))

pub returns-clause-renewed : goal.returns-clause-renewed
returns-clause-renewed c =
    let p : Parts = record { store = c.self.inside.cells; workers = c.self.inside.workers.items; phase = c.self.inside.phase; steps = c.self.inside.steps; allowance = c.self.inside.allowance } in
    let items : c.fill.new.self.items ≡ replicate (length p.workers) idle_worker = c.fill.ensures.items (λ y is. is) ∙ ap (λ n. replicate n c.idle_worker.result) c.self.inside.workers.ok.0 ∙ ap (replicate (length p.workers)) c.idle_worker.ensures in
    rw (c.renew.ensures, items, ← c.self.view_is) (renewed-seen p c.self.invariant (rw (← c.self.view_is) at c.requires))

pub returns-clause-asks : goal.returns-clause-asks
returns-clause-asks c =
    let p : Parts = record { store = c.self.inside.cells; workers = c.self.inside.workers.items; phase = c.self.inside.phase; steps = c.self.inside.steps; allowance = c.self.inside.allowance } in
    rw (← c.self.view_is) (renewed-fresh p c.self.invariant (rw (← c.self.view_is) at c.requires)).asks

pub returns-clause-held : goal.returns-clause-held
returns-clause-held c =
    let p : Parts = record { store = c.self.inside.cells; workers = c.self.inside.workers.items; phase = c.self.inside.phase; steps = c.self.inside.steps; allowance = c.self.inside.allowance } in
    let items : c.fill.new.self.items ≡ replicate (length p.workers) idle_worker = c.fill.ensures.items (λ y is. is) ∙ ap (λ n. replicate n c.idle_worker.result) c.self.inside.workers.ok.0 ∙ ap (replicate (length p.workers)) c.idle_worker.ensures in
    rw (c.renew.ensures, items) (step-holds (renewed_parts p) (renewed-kept p c.self.invariant (rw (← c.self.view_is) at c.requires)))
