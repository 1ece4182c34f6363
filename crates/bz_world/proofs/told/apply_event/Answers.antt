use Rattle.bz_sound.proofs.Proved.{none_is_open_beside_a_solitary_call}
use Rattle.bz_world.specs.Inside.Beginning.{world_view}
use Rattle.bz_world.proofs.Brief.{happened-brief}
use Rattle.bz_world.proofs.Powered.{few-acts}
use Rattle.bz_world.proofs.ToldEnds.{happened-tells}
use Rattle.bz_world.proofs.told.apply_event.Goals as goal

pub returns-clause-kept : goal.returns-clause-kept
returns-clause-kept c = record { kept = c.happen-applied.ensures.kept; tells = happened-tells none_is_open_beside_a_solitary_call (world_view c.args.parts.now) c.happen-applied.result (world_view c.happen-applied.new.parts) c.supply_is_shown.ensures c.requires.tells c.args.event c.happen-applied.ensures.applied; brief = happened-brief (world_view c.args.parts.now) c.happen-applied.result (world_view c.happen-applied.new.parts) (few-acts c.args.parts.now c.requires.kept) (few-acts c.happen-applied.new.parts c.happen-applied.ensures.kept) c.requires.brief c.args.event c.happen-applied.ensures.applied }
