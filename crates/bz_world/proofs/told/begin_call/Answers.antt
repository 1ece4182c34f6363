use Rattle.bz_world.specs.Inside.Beginning.{world_view}
use Rattle.bz_world.proofs.Brief.{begun-brief}
use Rattle.bz_world.proofs.Powered.{few-acts}
use Rattle.bz_world.proofs.ToldEnds.{begun-tells}
use Rattle.bz_world.proofs.told.begin_call.Goals as goal

pub returns-clause-kept : goal.returns-clause-kept
returns-clause-kept c = record { kept = c.begin.ensures.kept; tells = begun-tells (world_view c.args.parts.now) c.args.w c.args.call c.supply_is_shown.ensures c.requires.tells c.begin.result (world_view c.begin.new.parts) c.begin.ensures.answer c.begin.ensures.after; brief = begun-brief (world_view c.args.parts.now) c.args.w c.args.call c.begin.result (world_view c.begin.new.parts) (few-acts c.args.parts.now c.requires.kept) c.requires.brief c.begin.ensures.after }
