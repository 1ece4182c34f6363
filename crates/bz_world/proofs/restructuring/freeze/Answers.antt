use Rattle.std.proofs.Common.{refl, ap, ◌∙◌, Option, None}
use Rattle.std.specs.Vec.{with_item}
use Rattle.bz_any_task.specs.Kinds as kinds
use Rattle.bz_any_task.specs.Kinds.{begins_on, kinds-tell-what-goes-on}
use Rattle.bz_world.specs.Inside.Going.{known, with_task}
use Rattle.bz_world.specs.declared.serving.OpenCall.{OpenCall}
use Rattle.bz_world.proofs.MakingAnew.{no-leaf-split, freeze-taken}
use Rattle.bz_world.proofs.Meant.{freeze-meant}
use Rattle.bz_world.proofs.TakingOn.{task-begins, slot-is, went-anew}
use Rattle.bz_world.proofs.restructuring.freeze.Goals as goal

pub begin_task-requires-clause-begins : goal.begin_task-requires-clause-begins
begin_task-requires-clause-begins c = task-begins c.args.parts.now c.args.w c.freeze-task.result c.requires.lacks.answer.on.serving.had None None
    (freeze-taken c.start_laws.ensures.solo c.args.parts.now c.args.w c.args.view.now c.requires.lacks c.requires.thawed c.freeze-task.result
    (record { config = c.freeze-task.ensures.config; laws = c.laws.ensures; silent = c.freeze-task.ensures.silent; asks = c.freeze-task.ensures.asks; kind = c.freeze-task.ensures.kind; made = c.freeze-task.ensures.made; within = no-leaf-split c.freeze-task.result kinds.Freeze c.freeze-task.ensures.kind (λ a e. cc e) })
    c.freeze-task.ensures.ends c.freeze-task.ensures.wants c.freeze-task.ensures.facts
    (freeze-meant c.requires.lacks.answer.on.serving.call c.freeze-task.result c.args.view.now (known c.args.parts.now c.args.w c.requires.lacks.answer.on).past c.requires.lacks.lacks c.requires.thawed c.requires.lacks.answer.viewed c.freeze-task.ensures.made_for))
    c.set_task.new.slot (c.set_task.ensures ∙ ap (λ (z : Option OpenCall). with_task z c.freeze-task.result None) (slot-is c.args.parts.now c.args.w c.requires.lacks.answer.on c.index_mut.result.now c.index_mut.ensures.value))
    c.requires.lacks.answer.on.between.call_open.told c.start_laws.ensures.solo c.requires.lacks.answer.other refl (kinds-tell-what-goes-on c.freeze-task.result (ap begins_on c.freeze-task.ensures.kind))

pub returns : goal.returns
returns c = went-anew c.args.parts.now (with_item c.args.parts.now.workers c.args.w c.set_task.new.slot) c.args.parts.now.page c.args.w c.begin_task.result c.begin_task.new.parts c.begin_task.ensures
