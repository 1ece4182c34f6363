use Rattle.std.proofs.Common.{inr}
use Rattle.bz_call.specs.declared.calls.Call.TheVariants.{Upsert}
use Rattle.bz_world.proofs.TakingOn.{called-is}
use Rattle.bz_world.proofs.changes.answer_upsert.Goals as goal

pub update-requires-clause-must : goal.update-requires-clause-must
update-requires-clause-must c = record { answer = c.requires.view; may = inr (called-is c.args.parts.now c.args.w c.requires.view.on (Upsert c.args.key c.args.payload) c.requires.call) }

pub insert-requires-clause-must : goal.insert-requires-clause-must
insert-requires-clause-must c = record { answer = c.requires.view; may = inr (called-is c.args.parts.now c.args.w c.requires.view.on (Upsert c.args.key c.args.payload) c.requires.call) }
