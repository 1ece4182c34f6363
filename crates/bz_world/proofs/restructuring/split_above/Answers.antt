use Rattle.std.proofs.Common.{refl, ap, ◌∙◌, Option, None}
use Rattle.std.specs.Vec.{with_item}
use Rattle.bz_world.specs.Inside.Going.{with_task}
use Rattle.bz_world.specs.declared.serving.OpenCall.{OpenCall}
use Rattle.bz_world.proofs.GoingUp.{up-taken, crowded-other, begins-up}
use Rattle.bz_world.proofs.TakingOn.{task-begins, slot-is, went-anew}
use Rattle.bz_world.proofs.restructuring.split_above.Goals as goal

pub begin_task-requires-clause-begins : goal.begin_task-requires-clause-begins
begin_task-requires-clause-begins c = task-begins c.args.parts.now c.args.w c.args.task c.requires.up.ends.on.serving.had None None (up-taken c.start_laws.ensures.solo c.args.parts.now c.args.w c.args.task c.requires.up c.laws.ensures)
    c.set_task.new.slot (c.set_task.ensures ∙ ap (λ (z : Option OpenCall). with_task z c.args.task None) (slot-is c.args.parts.now c.args.w c.requires.up.ends.on c.index_mut.result.now c.index_mut.ensures.value))
    c.requires.up.ends.on.between.call_open.told c.start_laws.ensures.solo (crowded-other c.args.parts.now c.args.w c.requires.up.ends) refl (begins-up c.start_laws.ensures.solo c.args.parts.now c.args.w c.args.task c.requires.up)

pub returns : goal.returns
returns c = went-anew c.args.parts.now (with_item c.args.parts.now.workers c.args.w c.set_task.new.slot) c.args.parts.now.page c.args.w c.begin_task.result c.begin_task.new.parts c.begin_task.ensures
