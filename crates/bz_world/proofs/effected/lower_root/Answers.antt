use Rattle.std.proofs.Common.{◌≢◌, ap, ◌∙◌, refl, is_some, Option, None, Some}
use Rattle.std.specs.Vec.{with_item}
use Rattle.bz_any_task.specs.Kinds as kinds
use Rattle.bz_solo.specs.declared.rest.Rest.TheVariants as rest
use Rattle.bz_world.specs.Inside.Going.{still_in, with_task}
use Rattle.bz_world.specs.declared.serving.OpenCall.{OpenCall}
use Rattle.bz_world.proofs.MakingAnew.{no-leaf-split}
use Rattle.bz_world.proofs.MergeEnds.{found-ends}
use Rattle.bz_world.proofs.Spared.{after-way}
use Rattle.bz_world.proofs.TakingLevels.{level-other, level-taken}
use Rattle.bz_world.proofs.TakingOn.{task-begins, slot-is, went-anew}
use Rattle.bz_world.proofs.effected.lower_root.Goals as goal

pub end_effective-requires-clause-had : goal.end_effective-requires-clause-had
end_effective-requires-clause-had c = found-ends c.round_laws.ensures.scenes c.round_laws.ensures.trees c.args.parts.now c.args.w c.args.at c.args.path c.requires.found later
  where
    later : c.requires.found.had.on.serving.rest ≢ rest.Leaf
    later leaf = c.requires.later (ap still_in c.requires.found.had.on.is ∙ ap Some leaf)

pub begin_task-requires-clause-begins : goal.begin_task-requires-clause-begins
begin_task-requires-clause-begins c = task-begins c.args.parts.now c.args.w c.lower-task.result c.requires.found.had.on.serving.had None None
    (level-taken c.args.parts.now c.args.w c.args.at c.args.path c.requires.found later c.lower-task.result kinds.LowerRoot
    (record { config = c.lower-task.ensures.config; laws = c.laws.ensures; silent = c.lower-task.ensures.silent; asks = c.lower-task.ensures.asks; kind = c.lower-task.ensures.kind; made = c.lower-task.ensures.made; within = no-leaf-split c.lower-task.result kinds.LowerRoot c.lower-task.ensures.kind (λ a e. cc e) })
    (refl, λ e. cc e) c.start_laws.ensures.solo c.lower-task.ensures.ends c.lower-task.ensures.facts
    (after-way c.round_laws.ensures c.args.parts.now c.args.w c.requires.found.had.on (ap is_some c.requires.found.had.effect) c.requires.found.spares))
    c.set_task.new.slot (c.set_task.ensures ∙ ap (λ (z : Option OpenCall). with_task z c.lower-task.result None) (slot-is c.args.parts.now c.args.w c.requires.found.had.on c.index_mut.result.now c.index_mut.ensures.value))
    c.requires.found.had.on.between.call_open.told c.start_laws.ensures.solo (level-other c.args.parts.now c.args.w c.args.at c.args.path c.requires.found later) refl c.lower-task.ensures.goes
  where
    later : c.requires.found.had.on.serving.rest ≢ rest.Leaf
    later leaf = c.requires.later (ap still_in c.requires.found.had.on.is ∙ ap Some leaf)

pub returns : goal.returns
returns c = went-anew c.args.parts.now (with_item c.args.parts.now.workers c.args.w c.set_task.new.slot) c.args.parts.now.page c.args.w c.begin_task.result c.begin_task.new.parts c.begin_task.ensures
