use Rattle.std.proofs.Common.{rules}
use Rattle.bz_bus.proofs.Fills.{fills}
use Rattle.bz_bus.proofs.bus.Bus.fill.Goals as goal

pub load-requires : goal.load-requires
load-requires g c = (search rules, search rules, fills _ _ _ _ _ _ _ c.requires.opens)
