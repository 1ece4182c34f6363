use Rattle.std.proofs.Common.{rules, ◌∙◌, ap, sym, ◌∷◌, Some}
use Rattle.atomic_table.specs.Table.{rest}
use Rattle.bz_bus.proofs.bus.Bus.change.Goals as goal

pub slot_mut-requires : goal.slot_mut-requires
slot_mut-requires g c = let h = c.requires.held in (search rules, (Some h.0, h.1 ∙ ap (λ z. (0, Some h.0) ∷ rest z) (sym h.1)))
