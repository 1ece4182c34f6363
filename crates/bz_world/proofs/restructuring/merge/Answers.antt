use Rattle.std.proofs.Common.{refl, ap, ◌∙◌, Option, None}
use Rattle.std.specs.Vec.{with_item}
use Rattle.bz_any_task.specs.Kinds as kinds
use Rattle.bz_any_task.specs.Kinds.{begins_on, kinds-tell-what-goes-on}
use Rattle.bz_world.specs.Inside.Going.{with_task}
use Rattle.bz_world.specs.declared.serving.OpenCall.{OpenCall}
use Rattle.bz_world.proofs.MakingAnew.{no-leaf-split, merge-taken}
use Rattle.bz_world.proofs.TakingOn.{task-begins, slot-is, went-anew}
use Rattle.bz_world.proofs.restructuring.merge.Goals as goal

pub begin_task-requires-clause-begins : goal.begin_task-requires-clause-begins
begin_task-requires-clause-begins c = task-begins c.args.parts.now c.args.w c.merge-task.result c.requires.merge.on.serving.had None None
    (merge-taken c.start_laws.ensures.solo c.args.parts.now c.args.w c.args.path c.args.view.now c.requires.merge c.merge-task.result
    (record { config = c.merge-task.ensures.config; laws = c.laws.ensures; silent = c.merge-task.ensures.silent; asks = c.merge-task.ensures.asks; kind = c.merge-task.ensures.kind; made = c.merge-task.ensures.made; within = no-leaf-split c.merge-task.result kinds.Merge c.merge-task.ensures.kind (λ a e. cc e) })
    c.merge-task.ensures.ends c.merge-task.ensures.wants c.merge-task.ensures.swaps c.merge-task.ensures.facts c.merge-task.ensures.merge_for c.merge-task.ensures.small_for)
    c.set_task.new.slot (c.set_task.ensures ∙ ap (λ (z : Option OpenCall). with_task z c.merge-task.result None) (slot-is c.args.parts.now c.args.w c.requires.merge.on c.index_mut.result.now c.index_mut.ensures.value))
    c.requires.merge.on.between.call_open.told c.start_laws.ensures.solo c.requires.merge.other refl (kinds-tell-what-goes-on c.merge-task.result (ap begins_on c.merge-task.ensures.kind))

pub returns : goal.returns
returns c = went-anew c.args.parts.now (with_item c.args.parts.now.workers c.args.w c.set_task.new.slot) c.args.parts.now.page c.args.w c.begin_task.result c.begin_task.new.parts c.begin_task.ensures
