use Rattle.std.proofs.Common.{arith, sym, ap, subst, ◌∙◌, inr, Some, None, ◌≡◌}
use Rattle.bz_call.specs.Map.{key_of}
use Rattle.bz_world.specs.Inside.Exact.{puts}
use Rattle.bz_world.specs.Inside.Room.{LacksRoomFor}
use Rattle.bz_world.specs.Roomy.{swaps_told}
use Rattle.bz_world.proofs.Changing.{must-change, some-found, delete-changes, delete-puts}
use Rattle.bz_world.specs.Inside.Going.{path_in}
use Rattle.bz_world.specs.Inside.Laws.{HasEnd}
use Rattle.bz_world.proofs.TakingOn.{slot-is, some-path}
use Rattle.bz_world.proofs.changes.delete.Goals as goal

pub begin_change-requires-clause-change : goal.begin_change-requires-clause-change
begin_change-requires-clause-change c =
    must-change c.start_laws.ensures.solo c.start_laws.ensures.solitary.alone c.args.parts.now c.args.w c.args.view.now c.requires.must.answer c.args.key (ap key_of c.requires.must.may)
    c.delete-task.result (Some c.args.had) c.requires.present c.delete-task.ensures.config c.laws.ensures
    (delete-changes c.requires.must.answer.on.serving.call c.args.key c.args.had _ c.requires.must.may (c.delete-task.ensures.change ∙ ap (λ old. record { key = c.args.key; old = old; new = None }) c.requires.present)) c.delete-task.ensures.ends c.delete-task.ensures.asks c.delete-task.ensures.wants (omega (arith, c.delete-task.ensures.takes)) c.delete-task.ensures.facts
    (inr (inr c.delete-task.ensures.kind)) c.delete-task.ensures.made (λ s means. subst (λ called. LacksRoomFor called c.args.view.now.status) (sym c.requires.must.may) (c.delete-task.ensures.needs_room s means))
    (record { kind = ap puts c.delete-task.ensures.kind; tells = c.delete-task.ensures.takes ∙ sym (ap swaps_told (delete-puts c.requires.must.answer.on.serving.call c.args.key c.args.had c.requires.must.may)); few = omega (arith, c.delete-task.ensures.swaps, c.delete-task.ensures.takes) })
    (λ delete path is. let same : Some c.found_path-path.result ≡ Some path = sym (ap path_in (sym (slot-is c.args.parts.now c.args.w c.requires.must.answer.on c.index.result.now c.index.ensures)) ∙ c.found_path-path.ensures) ∙ is in let one : c.found_path-path.result ≡ path = cc same in subst HasEnd one c.paths_end.ensures)

pub delete-task-requires : goal.delete-task-requires
delete-task-requires c = record { present = some-found c.args.view.now.found c.args.had c.requires.present }

pub found_path-path-requires : goal.found_path-path-requires
found_path-path-requires c = some-path c.args.parts.now c.args.w c.requires.must.answer.on c.index.result.now c.index.ensures c.requires.must.answer.some

pub paths_end-requires-clause-some : goal.paths_end-requires-clause-some
paths_end-requires-clause-some c = (c.requires.must.answer.leads c.found_path-path.result (ap path_in (sym (slot-is c.args.parts.now c.args.w c.requires.must.answer.on c.index.result.now c.index.ensures)) ∙ c.found_path-path.ensures)).some

pub paths_end-requires-clause-few : goal.paths_end-requires-clause-few
paths_end-requires-clause-few c = (c.requires.must.answer.leads c.found_path-path.result (ap path_in (sym (slot-is c.args.parts.now c.args.w c.requires.must.answer.on c.index.result.now c.index.ensures)) ∙ c.found_path-path.ensures)).few
