use Rattle.std.specs.Prelude.{◌≡◌, false, length, replicate}
use Rattle.std.proofs.Common.{ap, ◌∙◌}
use Rattle.bz_swap_cells.proofs.Rooms.{room-renew}
use Rattle.bz_swap_cells.proofs.cells.Cells.renew.Goals as goal

pub invariant_of-self : goal.invariant_of-self
invariant_of-self c =
    let tags : c.fill.new.self.items ≡ replicate (length c.self.inside.next_tags.items) 0 = c.fill.ensures.items (λ y is. is) ∙ ap (λ n. replicate n 0) c.self.inside.next_tags.ok.0 in
    let missed : c.fill-2.new.self.items ≡ replicate (length c.self.inside.missed.items) false = c.fill-2.ensures.items (λ y is. is) ∙ ap (λ n. replicate n false) c.self.inside.missed.ok.0 in
    rw (tags, missed) (room-renew _ c.self.invariant)
