use Rattle.std.proofs.Common.{◌≡◌, refl, inl}
use Rattle.std.specs.Prelude.{None}
use Rattle.bz_call.specs.declared.calls.Call.TheVariants.{Update}
use Rattle.bz_world.proofs.Answering.{looking-key, no-update-right, content-is}
use Rattle.bz_world.proofs.TakingOn.{called-is}
use Rattle.bz_world.proofs.changes.answer_update.Goals as goal

pub end-requires-clause-right : goal.end-requires-clause-right
end-requires-clause-right c =
    no-update-right c.answer_laws.ensures c.args.parts.now c.args.w c.args.view.now.at c.requires.view.on (looking-key c.args.parts.now c.args.w c.args.view.now c.requires.view) (Update c.args.key c.args.payload) called c.args.key c.args.payload refl (content-is c.args.parts.now c.args.w c.args.view.now c.requires.view (Update c.args.key c.args.payload) called None c.in-None.is)
  where
    called : c.requires.view.on.serving.call ≡ Update c.args.key c.args.payload
    called = called-is c.args.parts.now c.args.w c.requires.view.on (Update c.args.key c.args.payload) c.requires.call

pub update-requires-clause-must : goal.update-requires-clause-must
update-requires-clause-must c = record { answer = c.requires.view; may = inl (called-is c.args.parts.now c.args.w c.requires.view.on (Update c.args.key c.args.payload) c.requires.call) }
