use Rattle.std.proofs.Common.{refl, ap, ◌∙◌, Option, None}
use Rattle.bz_call.specs.Map.{key_of}
use Rattle.bz_layout.specs.declared.thresholds.TheConstants.{CONSOLIDATION_SLOTS}
use Rattle.bz_solo.specs.Errands.{words_asked}
use Rattle.bz_any_task.specs.Kinds as kinds
use Rattle.bz_any_task.specs.Kinds.{begins_on, kinds-tell-what-goes-on}
use Rattle.std.specs.Vec.{with_item}
use Rattle.bz_world.specs.Inside.Going.{known, with_task}
use Rattle.bz_world.specs.declared.serving.OpenCall.{OpenCall}
use Rattle.bz_world.proofs.Changing.{copies-settled, needs-copy}
use Rattle.bz_world.proofs.MakingAnew.{no-leaf-split, copy-spares, anew-taken, anew-pages}
use Rattle.bz_world.proofs.TakingOn.{task-begins, slot-is, went-anew}
use Rattle.bz_world.proofs.restructuring.consolidate.Goals as goal

pub consolidate-task-requires-clause-alone : goal.consolidate-task-requires-clause-alone
consolidate-task-requires-clause-alone c = record { nodes = _; low = _; high = _; whole = c.requires.copy.anew.answer.viewed.whole }

pub begin_task-requires-clause-begins : goal.begin_task-requires-clause-begins
begin_task-requires-clause-begins c = task-begins (record c.args.parts.now { page = c.consolidate-task.new.page }) c.args.w c.consolidate-task.result c.requires.copy.anew.answer.on.serving.had None None
    (anew-taken c.start_laws.ensures.solo (record c.args.parts.now { page = c.consolidate-task.new.page }) c.args.w c.args.path c.args.view.now (anew-pages c.args.parts.now c.args.w c.args.path c.args.view.now c.consolidate-task.new.page c.requires.copy.anew)
    c.consolidate-task.result kinds.Copy
    (record { config = c.consolidate-task.ensures.config; laws = c.laws.ensures; silent = c.consolidate-task.ensures.silent; asks = c.consolidate-task.ensures.asks; kind = c.consolidate-task.ensures.kind; made = c.consolidate-task.ensures.made; within = no-leaf-split c.consolidate-task.result kinds.Copy c.consolidate-task.ensures.kind (λ a e. cc e) })
    (λ merge. cc merge)
    (λ copy. copies-settled c.start_laws.ensures.scenes c.answer_laws.ensures c.args.parts.now c.args.w c.args.view.now c.requires.copy.anew.answer (key_of c.requires.copy.anew.answer.on.serving.call) refl c.consolidate-task.result c.requires.copy.frozen c.requires.copy.few (c.consolidate-task.ensures.made_for (key_of c.requires.copy.anew.answer.on.serving.call) 0))
    (λ seek. cc seek, λ delete. cc delete) (c.consolidate-task.ensures.ends (key_of c.requires.copy.anew.answer.on.serving.call)) CONSOLIDATION_SLOTS c.consolidate-task.ensures.wants
    (needs-copy c.start_laws.ensures.scenes c.answer_laws.ensures c.args.parts.now c.args.w c.args.view.now c.requires.copy.anew.answer (key_of c.requires.copy.anew.answer.on.serving.call) refl c.requires.copy.frozen c.requires.copy.few)
    (c.consolidate-task.ensures.facts (key_of c.requires.copy.anew.answer.on.serving.call)) (c.consolidate-task.ensures.made_for (key_of c.requires.copy.anew.answer.on.serving.call) (words_asked c.requires.copy.anew.answer.on.serving.call) (known c.args.parts.now c.args.w c.requires.copy.anew.answer.on).past c.requires.copy.anew.answer.viewed c.requires.copy.few)
    (copy-spares c.start_laws.ensures.solo c.args.parts.now c.args.w c.args.path c.args.view.now c.requires.copy))
    c.set_task.new.slot (c.set_task.ensures ∙ ap (λ (z : Option OpenCall). with_task z c.consolidate-task.result None) (slot-is (record c.args.parts.now { page = c.consolidate-task.new.page }) c.args.w (anew-pages c.args.parts.now c.args.w c.args.path c.args.view.now c.consolidate-task.new.page c.requires.copy.anew).answer.on c.index_mut.result.now c.index_mut.ensures.value))
    c.requires.copy.anew.answer.on.between.call_open.told c.start_laws.ensures.solo c.requires.copy.anew.answer.other refl (kinds-tell-what-goes-on c.consolidate-task.result (ap begins_on c.consolidate-task.ensures.kind))

pub returns : goal.returns
returns c = went-anew c.args.parts.now (with_item c.args.parts.now.workers c.args.w c.set_task.new.slot) c.consolidate-task.new.page c.args.w c.begin_task.result c.begin_task.new.parts c.begin_task.ensures
