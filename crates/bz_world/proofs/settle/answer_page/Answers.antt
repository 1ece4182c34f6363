use Rattle.std.proofs.Common.{◌≡◌, refl}
use Rattle.bz_call.specs.declared.calls.Call.TheVariants.{Page}
use Rattle.bz_world.proofs.Answering.{views, good, past, looking-leaf, page-right}
use Rattle.bz_world.proofs.TakingOn.{called-is}
use Rattle.bz_world.proofs.settle.answer_page.Goals as goal

pub end_page-requires-clause-right : goal.end_page-requires-clause-right
end_page-requires-clause-right c =
    page-right c.answer_laws.ensures c.args.parts.now c.args.w c.args.view.now.at c.requires.view.on (looking-leaf c.args.parts.now c.args.w c.args.view.now c.requires.view) (Page c.args.from.now) called c.args.from.now c.collect-next.result c.collect-next.new.out refl
    (c.collect-next.ensures.page (past c.answer_laws.ensures c.args.parts.now c.args.w c.args.view.now.at c.requires.view.on (looking-leaf c.args.parts.now c.args.w c.args.view.now c.requires.view) (Page c.args.from.now) called)
    (views c.args.parts.now c.args.w c.args.view.now c.requires.view (Page c.args.from.now) called)
    (good c.answer_laws.ensures c.args.parts.now c.args.w c.args.view.now.at c.requires.view.on (looking-leaf c.args.parts.now c.args.w c.args.view.now c.requires.view) (Page c.args.from.now) called))
  where
    called : c.requires.view.on.serving.call ≡ Page c.args.from.now
    called = called-is c.args.parts.now c.args.w c.requires.view.on (Page c.args.from.now) c.requires.call
