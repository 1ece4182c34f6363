use Rattle.std.proofs.Common.{rules}
use Rattle.bz_bus.proofs.Raises.{raises}
use Rattle.bz_bus.proofs.bus.Bus.raise.Goals as goal

pub store-requires : goal.store-requires
store-requires g c = let h = c.requires.held in let t = c.requires.holds in (search rules, search rules, raises _ _ _ _ _ _ _ t.0 h.0 _ t.1 h.1 h.2.0 h.2.1)
