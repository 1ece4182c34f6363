use Rattle.std.proofs.Common.{rules}
use Rattle.bz_bus.proofs.Joins.{joins}
use Rattle.bz_bus.proofs.bus.Bus.glue.Goals as goal

pub join_seat-requires : goal.join_seat-requires
join_seat-requires g c = let f = c.requires.first in let o = c.requires.other in (search rules, search rules, o.1, search rules, joins _ _ _ _ _ _ _ _ f.0 f.1 f.2 o.0)
