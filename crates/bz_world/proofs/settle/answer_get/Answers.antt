use Rattle.std.proofs.Common.{◌≡◌, refl, sym, ap, subst, Some, None}
use Rattle.bz_call.specs.Pages.{names_page}
use Rattle.bz_call.specs.declared.calls.Call.TheVariants.{Get}
use Rattle.bz_world.specs.Inside.Going.{MustEnd}
use Rattle.bz_world.proofs.Answering.{looking-key, value-right, missing-right, content-is}
use Rattle.bz_world.proofs.SolitaryEnds.{few-acts}
use Rattle.bz_world.proofs.TakingOn.{called-is}
use Rattle.bz_world.proofs.settle.answer_get.Goals as goal
use Rattle.bz_world.proofs.settle.answer_get.Goals.{in-Some, in-None}

pub end-requires-clause-right : goal.end-requires-clause-right
end-requires-clause-right c = elim c.match-view.branch [
  | in-Some w ↦ subst (λ r. MustEnd c.args.parts.now c.args.w r c.args.view.now.at) (sym w.reply-is)
      (value-right c.answer_laws.ensures c.args.parts.now c.args.w c.args.view.now.at c.requires.view.on (looking-key c.args.parts.now c.args.w c.args.view.now c.requires.view) (Get c.args.key.now) called (few-acts c.answer_laws.ensures.solitary c.args.parts.now c.args.w c.args.view.now c.requires.view) c.args.key.now w.in-Some.found.payload refl
      (content-is c.args.parts.now c.args.w c.args.view.now c.requires.view (Get c.args.key.now) called (Some w.in-Some.found) w.in-Some.is))
  | in-None w ↦ subst (λ r. MustEnd c.args.parts.now c.args.w r c.args.view.now.at) (sym w.reply-is)
      (missing-right c.answer_laws.ensures c.args.parts.now c.args.w c.args.view.now.at c.requires.view.on (looking-key c.args.parts.now c.args.w c.args.view.now c.requires.view) (Get c.args.key.now) called (few-acts c.answer_laws.ensures.solitary c.args.parts.now c.args.w c.args.view.now c.requires.view) c.args.key.now refl
      (content-is c.args.parts.now c.args.w c.args.view.now c.requires.view (Get c.args.key.now) called None w.in-None.is))
]
  where
    called : c.requires.view.on.serving.call ≡ Get c.args.key.now
    called = called-is c.args.parts.now c.args.w c.requires.view.on (Get c.args.key.now) c.requires.call

pub end-requires-clause-plain : goal.end-requires-clause-plain
end-requires-clause-plain c = elim c.match-view.branch [
  | in-Some w ↦ ap names_page w.reply-is
  | in-None w ↦ ap names_page w.reply-is
]
