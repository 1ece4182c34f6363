use Rattle.std.proofs.Common.{rules}
use Rattle.bz_bus.proofs.Splits.{splits}
use Rattle.bz_bus.proofs.bus.Bus.cut.Goals as goal

pub split_seat-requires : goal.split_seat-requires
split_seat-requires g c = let f = c.requires.first in let n = c.requires.free in (search rules, search rules, rw (← c.requires.picked) (splits _ _ _ _ _ _ _ f.0 f.1 n.0 f.2 n.1))
