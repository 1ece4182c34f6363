use Rattle.std.proofs.Common.{rules}
use Rattle.bz_bus.proofs.Gives.{gives_back}
use Rattle.bz_bus.proofs.bus.Bus.give_back.Goals as goal

pub fetch_add-requires : goal.fetch_add-requires
fetch_add-requires g c = let h = c.requires.held in let t = c.requires.holds in (search rules, search rules, gives_back _ _ _ _ _ _ _ t.0 h.0 t.1 h.1 h.2.0 h.2.1)
