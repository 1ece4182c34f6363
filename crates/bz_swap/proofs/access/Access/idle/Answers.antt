use Rattle.std.proofs.Common.{sym, ap, ◌∙◌}
use Rattle.std.proofs.lemmas.Bool.{true≢false}
use Rattle.bz_swap_machine.specs.declared.worker.Worker.{Worker}
use Rattle.bz_swap.specs.Inside.Parts.{Parts}
use Rattle.bz_swap.proofs.Renewing.{resting-place}
use Rattle.bz_swap.proofs.Stepping.{worker-read, workers-within}
use Rattle.bz_swap.proofs.access.Access.idle.Goals as goal

pub returns-in_default : goal.returns-in_default
returns-in_default c =
    let p : Parts = record { store = c.self.inside.cells; workers = c.self.inside.workers.items; phase = c.self.inside.phase; steps = c.self.inside.steps; allowance = c.self.inside.allowance } in
    let is = worker-read p c.args.w c.index.result.now (workers-within p c.args.w (rw (← c.self.view_is) at c.requires)) c.index.ensures in
    (λ no. absurd (true≢false (sym no)), λ idle. absurd (c.in_default.not-Idle (ap (λ (l : Worker). l.place) is ∙ resting-place p c.self.invariant c.args.w (rw (← c.self.view_is) at idle))))
