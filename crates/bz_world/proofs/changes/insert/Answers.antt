use Rattle.std.proofs.Common.{arith, sym, ap, ◌∙◌, inl, None}
use Rattle.bz_task.specs.Outcomes.{payload_of}
use Rattle.bz_world.specs.Inside.Exact.{puts}
use Rattle.bz_world.specs.Roomy.{swaps_told}
use Rattle.bz_world.proofs.Changing.{must-change, insert-key, insert-changes, insert-lacks, insert-puts}
use Rattle.bz_world.proofs.TakingOn.{some-path}
use Rattle.bz_world.proofs.changes.insert.Goals as goal

pub begin_change-requires-clause-change : goal.begin_change-requires-clause-change
begin_change-requires-clause-change c =
    must-change c.start_laws.ensures.solo c.start_laws.ensures.solitary.alone c.args.parts.now c.args.w c.args.view.now c.requires.must.answer c.args.key (insert-key c.requires.must.answer.on.serving.call c.args.key c.args.payload c.requires.must.may)
    c.insert-task.result None (ap payload_of c.requires.absent) c.insert-task.ensures.config c.laws.ensures
    (insert-changes c.requires.must.answer.on.serving.call c.args.key c.args.payload _ c.requires.must.may c.insert-task.ensures.change) c.insert-task.ensures.ends c.insert-task.ensures.asks c.insert-task.ensures.wants (omega (arith, c.insert-task.ensures.takes)) c.insert-task.ensures.facts
    (inl c.insert-task.ensures.kind) c.insert-task.ensures.made (λ s means. insert-lacks c.requires.must.answer.on.serving.call c.args.key c.args.payload c.args.view.now.status c.requires.must.may (c.insert-task.ensures.needs_room s means))
    (record { kind = ap puts c.insert-task.ensures.kind; tells = c.insert-task.ensures.takes ∙ sym (ap swaps_told (insert-puts c.requires.must.answer.on.serving.call c.args.key c.args.payload c.requires.must.may)); few = omega (arith, c.insert-task.ensures.swaps, c.insert-task.ensures.takes) })
    (λ delete. absurd (cc (c.insert-task.ensures.kind, delete)))

pub found_path-path-requires : goal.found_path-path-requires
found_path-path-requires c = some-path c.args.parts.now c.args.w c.requires.must.answer.on c.index.result.now c.index.ensures c.requires.must.answer.some
