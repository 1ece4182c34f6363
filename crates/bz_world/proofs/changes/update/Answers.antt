use Rattle.std.proofs.Common.{arith, sym, ap, ◌∙◌, inl, inr, Some}
use Rattle.bz_world.specs.Inside.Exact.{puts}
use Rattle.bz_world.specs.Roomy.{swaps_told}
use Rattle.bz_world.proofs.Changing.{must-change, some-found, update-key, update-changes, update-lacks, update-puts}
use Rattle.bz_world.proofs.TakingOn.{some-path}
use Rattle.bz_world.proofs.changes.update.Goals as goal

pub begin_change-requires-clause-change : goal.begin_change-requires-clause-change
begin_change-requires-clause-change c =
    must-change c.start_laws.ensures.solo c.start_laws.ensures.solitary.alone c.args.parts.now c.args.w c.args.view.now c.requires.must.answer c.args.key (update-key c.requires.must.answer.on.serving.call c.args.key c.args.payload c.requires.must.may)
    c.update-task.result (Some c.args.had) c.requires.present c.update-task.ensures.config c.laws.ensures
    (update-changes c.requires.must.answer.on.serving.call c.args.key c.args.payload c.args.had _ c.requires.must.may (c.update-task.ensures.change ∙ ap (λ old. record { key = c.args.key; old = old; new = Some c.args.payload }) c.requires.present)) c.update-task.ensures.ends c.update-task.ensures.asks c.update-task.ensures.wants (omega (arith, c.update-task.ensures.takes)) c.update-task.ensures.facts
    (inr (inl c.update-task.ensures.kind)) c.update-task.ensures.made (λ s means. update-lacks c.requires.must.answer.on.serving.call c.args.key c.args.payload c.args.view.now.status c.requires.must.may (c.update-task.ensures.needs_room s means))
    (record { kind = ap puts c.update-task.ensures.kind; tells = c.update-task.ensures.takes ∙ sym (ap swaps_told (update-puts c.requires.must.answer.on.serving.call c.args.key c.args.payload c.args.had c.requires.must.may)); few = omega (arith, c.update-task.ensures.swaps, c.update-task.ensures.takes) })
    (λ delete. absurd (cc (c.update-task.ensures.kind, delete)))

pub update-task-requires : goal.update-task-requires
update-task-requires c = record { present = some-found c.args.view.now.found c.args.had c.requires.present }

pub found_path-path-requires : goal.found_path-path-requires
found_path-path-requires c = some-path c.args.parts.now c.args.w c.requires.must.answer.on c.index.result.now c.index.ensures c.requires.must.answer.some
