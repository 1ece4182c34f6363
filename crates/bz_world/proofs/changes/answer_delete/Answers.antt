use Rattle.std.proofs.Common.{◌≡◌, refl}
use Rattle.std.specs.Prelude.{None}
use Rattle.bz_call.specs.declared.calls.Call.TheVariants.{Delete}
use Rattle.bz_world.proofs.Answering.{looking-key, no-delete-right, content-is}
use Rattle.bz_world.proofs.TakingOn.{called-is}
use Rattle.bz_world.proofs.changes.answer_delete.Goals as goal

pub end-requires-clause-right : goal.end-requires-clause-right
end-requires-clause-right c =
    no-delete-right c.answer_laws.ensures c.args.parts.now c.args.w c.args.view.now.at c.requires.view.on (looking-key c.args.parts.now c.args.w c.args.view.now c.requires.view) (Delete c.args.key) called c.args.key refl (content-is c.args.parts.now c.args.w c.args.view.now c.requires.view (Delete c.args.key) called None c.in-None.is)
  where
    called : c.requires.view.on.serving.call ≡ Delete c.args.key
    called = called-is c.args.parts.now c.args.w c.requires.view.on (Delete c.args.key) c.requires.call

pub delete-requires-clause-must : goal.delete-requires-clause-must
delete-requires-clause-must c = record { answer = c.requires.view; may = called-is c.args.parts.now c.args.w c.requires.view.on (Delete c.args.key) c.requires.call }
