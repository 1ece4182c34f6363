use Rattle.bz_world.proofs.ToldShown.{tells-as-shown}
use Rattle.bz_world.proofs.told.supply_is_shown.Goals as goal

pub returns : goal.returns
returns c = tells-as-shown c.args.parts.now c.requires c.left.ensures.ordered
