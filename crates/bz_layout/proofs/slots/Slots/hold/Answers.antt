use Rattle.std.proofs.Common.{◌≡◌, ◌<◌, length, true, false, slice_index_or, arith}
use Rattle.std.proofs.lemmas.List.{length-set}
use Rattle.bz_layout.proofs.FreePlaces.{slot_inside, flag_read, slots_of_cleared, slots_of_held, length-free_places_cleared, none_free_cleared}
use Rattle.bz_layout.proofs.slots.Slots.hold.Goals as goal

pub overflow_sub-self : goal.overflow_sub-self
overflow_sub-self c =
    let inside : c.args.slot < length c.self.inside.is_free.items = slot_inside _ _ _ c.self.view_is c.requires in
    let free : slice_index_or c.self.inside.is_free.items c.args.slot false ≡ true = flag_read _ _ _ _ inside c.index.ensures c.if-index.true in
    omega (arith, c.self.invariant.left, length-free_places_cleared c.self.inside.is_free.items c.args.slot inside free)

pub invariant_of-self : goal.invariant_of-self
invariant_of-self c =
    let inside : c.args.slot < length c.self.inside.is_free.items = slot_inside _ _ _ c.self.view_is c.requires in
    let free : slice_index_or c.self.inside.is_free.items c.args.slot false ≡ true = flag_read _ _ _ _ inside c.index.ensures c.if-index.true in
    record {
      left = omega (arith, c.self.invariant.left, length-free_places_cleared c.self.inside.is_free.items c.args.slot inside free);
      lowest = none_free_cleared c.self.inside.is_free.items c.args.slot c.self.inside.lowest inside c.self.invariant.lowest;
      nodes = rw length-set c.self.invariant.nodes;
    }

pub returns-then-index : goal.returns-then-index
returns-then-index c =
    let inside : c.args.slot < length c.self.inside.is_free.items = slot_inside _ _ _ c.self.view_is c.requires in
    rw (← c.self.view_is) (slots_of_cleared c.self.inside.is_free.items c.args.slot inside)

pub returns-else-index : goal.returns-else-index
returns-else-index c =
    let inside : c.args.slot < length c.self.inside.is_free.items = slot_inside _ _ _ c.self.view_is c.requires in
    let held : slice_index_or c.self.inside.is_free.items c.args.slot false ≡ false = flag_read _ _ _ _ inside c.index.ensures c.if-index.false in
    rw (← c.self.view_is) (slots_of_held c.self.inside.is_free.items c.args.slot held)
