use Rattle.std.specs.Prelude.{◌≡◌, ◌+◌, replicate}
use Rattle.std.proofs.Common.{ap, ◌∙◌}
use Rattle.bz_swap.specs.Inside.Parts.{idle_worker}
use Rattle.bz_swap.proofs.Opening.{opened_parts, opened-kept, opened-is}
use Rattle.bz_swap.proofs.Stepping.{step-holds}
use Rattle.bz_swap.proofs.access.Access.open.Goals as goal

pub invariant_of-result : goal.invariant_of-result
invariant_of-result c =
    let items : c.in_ok-workers.workers.items ≡ replicate (c.args.workers + 1) idle_worker = c.in_ok-workers.ensures.items_if_clones_equal (λ y is. is) ∙ ap (replicate (c.args.workers + 1)) c.idle_worker.ensures in
    rw (c.in_ok-cells.ensures.words, items) (opened-kept c.first_phase-phase.result c.args.start.now c.args.swaps c.args.workers c.requires.some c.requires.workers.1
    (rw c.in_ok-cells.ensures.words at c.in_ok-cells.ensures.room) c.first_phase-phase.ensures.opened.0 c.first_phase-phase.ensures.otherwise)

pub returns-clause-opened : goal.returns-clause-opened
returns-clause-opened c =
    let items : c.in_ok-workers.workers.items ≡ replicate (c.args.workers + 1) idle_worker = c.in_ok-workers.ensures.items_if_clones_equal (λ y is. is) ∙ ap (replicate (c.args.workers + 1)) c.idle_worker.ensures in
    rw (c.in_ok-cells.ensures.words, items) (opened-is c.first_phase-phase.result c.args.start.now c.args.swaps c.args.workers c.first_phase-phase.ensures.opened c.first_phase-phase.ensures.otherwise)

pub returns-clause-held : goal.returns-clause-held
returns-clause-held c =
    let items : c.in_ok-workers.workers.items ≡ replicate (c.args.workers + 1) idle_worker = c.in_ok-workers.ensures.items_if_clones_equal (λ y is. is) ∙ ap (replicate (c.args.workers + 1)) c.idle_worker.ensures in
    rw (c.in_ok-cells.ensures.words, items) (step-holds (opened_parts c.first_phase-phase.result c.args.start.now c.args.swaps c.args.workers) (opened-kept c.first_phase-phase.result c.args.start.now c.args.swaps c.args.workers c.requires.some c.requires.workers.1
    (rw c.in_ok-cells.ensures.words at c.in_ok-cells.ensures.room) c.first_phase-phase.ensures.opened.0 c.first_phase-phase.ensures.otherwise))
