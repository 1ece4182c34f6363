use Rattle.std.proofs.Common.{rules}
use Rattle.bz_bus.proofs.Looks.{looks}
use Rattle.bz_bus.proofs.bus.Bus.look.Goals as goal

pub load-requires : goal.load-requires
load-requires g c = (search rules, search rules, looks _ _ _ _ _ _ _ c.requires.waits.0 c.requires.waits.1)
