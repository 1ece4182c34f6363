use Rattle.std.proofs.Common.{◌≡◌, ◌≢◌, ap, sym, ◌∙◌, refl, is_some, Option, None, Some}
use Rattle.std.specs.Vec.{with_item}
use Rattle.bz_any_task.specs.Kinds as kinds
use Rattle.bz_solo.specs.declared.rest.Rest.TheVariants as rest
use Rattle.bz_world.specs.Inside.Going.{still_in, with_task}
use Rattle.bz_world.specs.declared.serving.OpenCall.{OpenCall}
use Rattle.bz_world.proofs.MakingAnew.{no-leaf-split}
use Rattle.bz_world.proofs.Spared.{after-pass}
use Rattle.bz_world.proofs.TakingLevels.{level-other, level-taken}
use Rattle.bz_world.proofs.TakingOn.{task-begins, slot-is, went-anew}
use Rattle.bz_world.proofs.effected.merge_inner.Goals as goal

pub lower_root-requires-clause-later : goal.lower_root-requires-clause-later
lower_root-requires-clause-later c leaf = cc (sym c.requires.inner ∙ leaf)

pub begin_task-requires-clause-begins : goal.begin_task-requires-clause-begins
begin_task-requires-clause-begins c = task-begins c.args.parts.now c.args.w c.merge_inner-task.result c.requires.found.had.on.serving.had None None
    (level-taken c.args.parts.now c.args.w c.args.at c.args.path c.requires.found later c.merge_inner-task.result kinds.MergeNodes
    (record { config = c.merge_inner-task.ensures.config; laws = c.laws.ensures; silent = c.merge_inner-task.ensures.silent; asks = c.merge_inner-task.ensures.asks; kind = c.merge_inner-task.ensures.kind; made = c.merge_inner-task.ensures.made; within = no-leaf-split c.merge_inner-task.result kinds.MergeNodes c.merge_inner-task.ensures.kind (λ a e. cc e) })
    (refl, λ e. cc e) c.start_laws.ensures.solo c.merge_inner-task.ensures.ends c.merge_inner-task.ensures.facts
    (after-pass c.round_laws.ensures c.args.parts.now c.args.w c.requires.found.had.on (ap is_some c.requires.found.had.effect) inner c.requires.found.spares))
    c.set_task.new.slot (c.set_task.ensures ∙ ap (λ (z : Option OpenCall). with_task z c.merge_inner-task.result None) (slot-is c.args.parts.now c.args.w c.requires.found.had.on c.index_mut.result.now c.index_mut.ensures.value))
    c.requires.found.had.on.between.call_open.told c.start_laws.ensures.solo (level-other c.args.parts.now c.args.w c.args.at c.args.path c.requires.found later) refl c.merge_inner-task.ensures.goes
  where
    inner : c.requires.found.had.on.serving.rest ≡ rest.Inner
    inner = let both : Some c.requires.found.had.on.serving.rest ≡ Some rest.Inner = sym (ap still_in c.requires.found.had.on.is) ∙ c.requires.inner in cc both

    later : c.requires.found.had.on.serving.rest ≢ rest.Leaf
    later leaf = cc (inner, leaf)

pub returns : goal.returns
returns c = went-anew c.args.parts.now (with_item c.args.parts.now.workers c.args.w c.set_task.new.slot) c.args.parts.now.page c.args.w c.begin_task.result c.begin_task.new.parts c.begin_task.ensures
