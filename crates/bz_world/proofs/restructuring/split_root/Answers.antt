use Rattle.std.proofs.Common.{refl, ap, ◌∙◌, Option, None}
use Rattle.bz_call.specs.Map.{key_of}
use Rattle.bz_layout.specs.declared.thresholds.TheConstants.{SPLIT_SLOTS}
use Rattle.bz_solo.specs.Errands.{words_asked}
use Rattle.bz_any_task.specs.Kinds as kinds
use Rattle.bz_any_task.specs.Kinds.{begins_on, kinds-tell-what-goes-on}
use Rattle.std.specs.Vec.{with_item}
use Rattle.bz_world.specs.Inside.Going.{known, with_task}
use Rattle.bz_world.specs.declared.serving.OpenCall.{OpenCall}
use Rattle.bz_world.proofs.Changing.{needs-split}
use Rattle.bz_world.proofs.MakingAnew.{no-leaf-split, root-spares, anew-taken, anew-pages}
use Rattle.bz_world.proofs.TakingOn.{task-begins, slot-is, went-anew}
use Rattle.bz_world.proofs.restructuring.split_root.Goals as goal

pub split_root-task-requires-clause-alone : goal.split_root-task-requires-clause-alone
split_root-task-requires-clause-alone c = record { nodes = _; low = _; high = _; whole = c.requires.split.anew.answer.viewed.whole }

pub begin_task-requires-clause-begins : goal.begin_task-requires-clause-begins
begin_task-requires-clause-begins c = task-begins (record c.args.parts.now { page = c.split_root-task.new.page }) c.args.w c.split_root-task.result c.requires.split.anew.answer.on.serving.had None None
    (anew-taken c.start_laws.ensures.solo (record c.args.parts.now { page = c.split_root-task.new.page }) c.args.w c.args.path c.args.view.now (anew-pages c.args.parts.now c.args.w c.args.path c.args.view.now c.split_root-task.new.page c.requires.split.anew)
    c.split_root-task.result kinds.SplitRootLeaf
    (record { config = c.split_root-task.ensures.config; laws = c.laws.ensures; silent = c.split_root-task.ensures.silent; asks = c.split_root-task.ensures.asks; kind = c.split_root-task.ensures.kind; made = c.split_root-task.ensures.made; within = no-leaf-split c.split_root-task.result kinds.SplitRootLeaf c.split_root-task.ensures.kind (λ a e. cc e) })
    (λ merge. cc merge) (λ copy. absurd (cc copy)) (λ seek. cc seek, λ delete. cc delete) (c.split_root-task.ensures.ends (key_of c.requires.split.anew.answer.on.serving.call)) SPLIT_SLOTS c.split_root-task.ensures.wants
    (needs-split c.start_laws.ensures.scenes c.answer_laws.ensures c.args.parts.now c.args.w c.args.view.now c.requires.split.anew.answer (key_of c.requires.split.anew.answer.on.serving.call) refl c.requires.split.frozen c.requires.split.many)
    (c.split_root-task.ensures.facts (key_of c.requires.split.anew.answer.on.serving.call)) (c.split_root-task.ensures.made_for (key_of c.requires.split.anew.answer.on.serving.call) (words_asked c.requires.split.anew.answer.on.serving.call) (known c.args.parts.now c.args.w c.requires.split.anew.answer.on).past c.requires.split.anew.answer.viewed)
    (root-spares c.start_laws.ensures.solo c.args.parts.now c.args.w c.args.path c.args.view.now c.requires.split))
    c.set_task.new.slot (c.set_task.ensures ∙ ap (λ (z : Option OpenCall). with_task z c.split_root-task.result None) (slot-is (record c.args.parts.now { page = c.split_root-task.new.page }) c.args.w (anew-pages c.args.parts.now c.args.w c.args.path c.args.view.now c.split_root-task.new.page c.requires.split.anew).answer.on c.index_mut.result.now c.index_mut.ensures.value))
    c.requires.split.anew.answer.on.between.call_open.told c.start_laws.ensures.solo c.requires.split.anew.answer.other refl (kinds-tell-what-goes-on c.split_root-task.result (ap begins_on c.split_root-task.ensures.kind))

pub returns : goal.returns
returns c = went-anew c.args.parts.now (with_item c.args.parts.now.workers c.args.w c.set_task.new.slot) c.split_root-task.new.page c.args.w c.begin_task.result c.begin_task.new.parts c.begin_task.ensures
