use Rattle.std.proofs.Common.{◌≡◌, ◌<◌, length, true, false, slice_index_or, arith}
use Rattle.std.proofs.lemmas.List.{length-set}
use Rattle.bz_layout.specs.Table.{NoneFreeBelow}
use Rattle.bz_layout.proofs.FreePlaces.{free_places_first, length-free_places_cleared, none_free_next}
use Rattle.bz_layout.proofs.slots.Slots.take_lowest.Goals as goal

pub invariant_of-self : goal.invariant_of-self
invariant_of-self c =
    let inside : c.lowest_free-slot.result < length c.self.inside.is_free.items = rw c.deref.ensures.value at c.lowest_free-slot.ensures.inside in
    let free : slice_index_or c.self.inside.is_free.items c.lowest_free-slot.result false ≡ true = rw c.deref.ensures.value at c.lowest_free-slot.ensures.free in
    let lowest : NoneFreeBelow c.lowest_free-slot.result c.self.inside.is_free.items = rw c.deref.ensures.value at c.lowest_free-slot.ensures.lowest in
    record {
      left = omega (arith, length-free_places_cleared c.self.inside.is_free.items c.lowest_free-slot.result inside free, c.self.invariant.left);
      lowest = none_free_next c.self.inside.is_free.items c.lowest_free-slot.result inside lowest;
      nodes = rw length-set c.self.invariant.nodes;
    }

pub returns-clause-free : goal.returns-clause-free
returns-clause-free c =
    let inside : c.lowest_free-slot.result < length c.self.inside.is_free.items = rw c.deref.ensures.value at c.lowest_free-slot.ensures.inside in
    let free : slice_index_or c.self.inside.is_free.items c.lowest_free-slot.result false ≡ true = rw c.deref.ensures.value at c.lowest_free-slot.ensures.free in
    let lowest : NoneFreeBelow c.lowest_free-slot.result c.self.inside.is_free.items = rw c.deref.ensures.value at c.lowest_free-slot.ensures.lowest in
    rw (← c.self.view_is) (free_places_first c.self.inside.is_free.items c.lowest_free-slot.result inside free lowest)
