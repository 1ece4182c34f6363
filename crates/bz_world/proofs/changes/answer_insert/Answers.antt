use Rattle.std.proofs.Common.{◌≡◌, refl, inl, Some}
use Rattle.bz_call.specs.declared.calls.Call.TheVariants.{Insert}
use Rattle.bz_world.proofs.Answering.{looking-key, exists-right, content-is}
use Rattle.bz_world.proofs.TakingOn.{called-is}
use Rattle.bz_world.proofs.changes.answer_insert.Goals as goal

pub end-requires-clause-right : goal.end-requires-clause-right
end-requires-clause-right c =
    exists-right c.answer_laws.ensures c.args.parts.now c.args.w c.args.view.now.at c.requires.view.on (looking-key c.args.parts.now c.args.w c.args.view.now c.requires.view) (Insert c.args.key c.args.payload) called c.args.key c.args.payload c.in-Some.field-0.payload refl (content-is c.args.parts.now c.args.w c.args.view.now c.requires.view (Insert c.args.key c.args.payload) called (Some c.in-Some.field-0) c.in-Some.is)
  where
    called : c.requires.view.on.serving.call ≡ Insert c.args.key c.args.payload
    called = called-is c.args.parts.now c.args.w c.requires.view.on (Insert c.args.key c.args.payload) c.requires.call

pub insert-requires-clause-must : goal.insert-requires-clause-must
insert-requires-clause-must c = record { answer = c.requires.view; may = inl (called-is c.args.parts.now c.args.w c.requires.view.on (Insert c.args.key c.args.payload) c.requires.call) }
