use Rattle.std.proofs.Common.{◌≡◌, ℕ, List, arith, refl, sym, ap, subst, ◌∙◌, Option, None}
use Rattle.bz_call.specs.Map.{key_of}
use Rattle.bz_layout.specs.declared.thresholds.TheConstants.{SPLIT_SLOTS}
use Rattle.bz_solo.specs.Errands.{words_asked}
use Rattle.std.specs.Vec.{with_item}
use Rattle.bz_any_task.specs.Duties.{facts_of}
use Rattle.bz_any_task.specs.Hearing.{IsLookup}
use Rattle.bz_any_task.specs.Kinds as kinds
use Rattle.bz_any_task.specs.Kinds.{begins_on, kinds-tell-what-goes-on}
use Rattle.bz_any_task.specs.MadeFor.{IsMadeFor}
use Rattle.bz_task.specs.Outcomes.{IsPath, IsView}
use Rattle.bz_task.specs.Scene.{Scene, IsScene, Waiting}
use Rattle.bz_task.specs.declared.path.Path.{Path}
use Rattle.bz_world.specs.Inside.Going.{known, with_task}
use Rattle.bz_world.specs.declared.serving.OpenCall.{OpenCall}
use Rattle.bz_world.proofs.Changing.{needs-split}
use Rattle.bz_world.proofs.MakingAnew.{below-spares, anew-taken, anew-pages}
use Rattle.bz_world.proofs.Paid.{within-of}
use Rattle.bz_world.proofs.TakingOn.{task-begins, slot-is, call-is, went-anew}
use Rattle.bz_world.proofs.restructuring.split_below.Goals as goal

pub split_below-task-requires-clause-alone : goal.split_below-task-requires-clause-alone
split_below-task-requires-clause-alone c = record { nodes = _; low = _; high = _; whole = c.requires.split.anew.answer.viewed.whole }

pub begin_task-requires-clause-begins : goal.begin_task-requires-clause-begins
begin_task-requires-clause-begins c = task-begins (record c.args.parts.now { page = c.split_below-task.new.page }) c.args.w c.split_below-task.result c.requires.split.anew.answer.on.serving.had None None
    (anew-taken c.start_laws.ensures.solo (record c.args.parts.now { page = c.split_below-task.new.page }) c.args.w c.args.path c.args.view.now (anew-pages c.args.parts.now c.args.w c.args.path c.args.view.now c.split_below-task.new.page c.requires.split.anew)
    c.split_below-task.result (kinds.SplitLeaf c.split_below-task.ensures.kind.from)
    (record { config = c.split_below-task.ensures.config; laws = c.laws.ensures; silent = c.split_below-task.ensures.silent; asks = c.split_below-task.ensures.asks; kind = c.split_below-task.ensures.kind.is; made = c.split_below-task.ensures.made; within = within-of c.split_below-task.result (λ a e. omega (arith, c.split_below-task.ensures.left)) })
    (λ merge. cc merge) (λ copy. absurd (cc copy)) (λ seek. cc seek, λ delete. cc delete) looks SPLIT_SLOTS c.split_below-task.ensures.wants
    (needs-split c.start_laws.ensures.scenes c.answer_laws.ensures c.args.parts.now c.args.w c.args.view.now c.requires.split.anew.answer (key_of c.requires.split.anew.answer.on.serving.call) refl c.requires.split.frozen c.requires.split.many)
    facts made (below-spares c.start_laws.ensures.solo c.args.parts.now c.args.w c.args.path c.args.view.now c.requires.split))
    c.set_task.new.slot (c.set_task.ensures ∙ ap (λ (z : Option OpenCall). with_task z c.split_below-task.result None) (slot-is (record c.args.parts.now { page = c.split_below-task.new.page }) c.args.w (anew-pages c.args.parts.now c.args.w c.args.path c.args.view.now c.split_below-task.new.page c.requires.split.anew).answer.on c.index_mut.result.now c.index_mut.ensures.value))
    c.requires.split.anew.answer.on.between.call_open.told c.start_laws.ensures.solo c.requires.split.anew.answer.other refl (kinds-tell-what-goes-on c.split_below-task.result (ap begins_on c.split_below-task.ensures.kind.is))
  where
    key : c.key_of.result ≡ key_of c.requires.split.anew.answer.on.serving.call
    key = c.key_of.ensures ∙ ap key_of (sym (call-is c.args.parts.now c.args.w c.requires.split.anew.answer.on c.index.result.now c.called-call.result c.index.ensures c.called-call.ensures))

    looks : (way : Option Path) → IsLookup (key_of c.requires.split.anew.answer.on.serving.call) way c.split_below-task.result
    looks way = subst (λ (k : List ℕ). IsLookup k way c.split_below-task.result) key (c.split_below-task.ensures.ends way)

    facts : (s : Scene) → s.past.config ≡ c.args.parts.now.config → IsScene s → IsPath (key_of c.requires.split.anew.answer.on.serving.call) c.args.path s.past → IsView (key_of c.requires.split.anew.answer.on.serving.call) c.args.view.now s.past → facts_of c.split_below-task.result Waiting s
    facts s config good path viewed = c.split_below-task.ensures.facts s config good (subst (λ (k : List ℕ). IsPath k c.args.path s.past) (sym key) path) (subst (λ (k : List ℕ). IsView k c.args.view.now s.past) (sym key) viewed)

    -- it is made for the key of the call
    made : IsMadeFor c.split_below-task.result (key_of c.requires.split.anew.answer.on.serving.call) (words_asked c.requires.split.anew.answer.on.serving.call) (known c.args.parts.now c.args.w c.requires.split.anew.answer.on).past
    made = subst (λ (k : List ℕ). IsMadeFor c.split_below-task.result k (words_asked c.requires.split.anew.answer.on.serving.call) (known c.args.parts.now c.args.w c.requires.split.anew.answer.on).past) key
        (c.split_below-task.ensures.made_for (words_asked c.requires.split.anew.answer.on.serving.call) (known c.args.parts.now c.args.w c.requires.split.anew.answer.on).past
        (subst (λ (k : List ℕ). IsView k c.args.view.now (known c.args.parts.now c.args.w c.requires.split.anew.answer.on).past) (sym key) c.requires.split.anew.answer.viewed))

pub returns : goal.returns
returns c = went-anew c.args.parts.now (with_item c.args.parts.now.workers c.args.w c.set_task.new.slot) c.split_below-task.new.page c.args.w c.begin_task.result c.begin_task.new.parts c.begin_task.ensures
