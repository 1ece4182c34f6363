use Rattle.std.proofs.Common.{rules}
use Rattle.bz_bus.proofs.Draws.{draws}
use Rattle.bz_bus.proofs.bus.Bus.draw.Goals as goal

pub fetch_add-requires : goal.fetch_add-requires
fetch_add-requires g c = (search rules, search rules, draws _ _ _ _ _ _ _ c.requires.idle)
