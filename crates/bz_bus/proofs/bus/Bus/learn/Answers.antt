use Rattle.std.proofs.Common.{rules}
use Rattle.bz_bus.proofs.Learns.{learns}
use Rattle.bz_bus.proofs.bus.Bus.learn.Goals as goal

pub load-requires : goal.load-requires
load-requires g c = let h = c.requires.joined in (search rules, search rules, learns _ _ _ _ _ _ _ h.0 h.1)
