use Rattle.std.proofs.Common.{◌∙◌, sym, arith}
use Rattle.bz_layout.proofs.FreePlaces.{slots_of_in_order}
use Rattle.bz_layout.proofs.TakenSlots.{out_next, rest_next}
use Rattle.bz_layout.proofs.slots.Slots.take.Goals as goal

pub returns-then-self-k-clause-ordered : goal.returns-then-self-k-clause-ordered
returns-then-self-k-clause-ordered c = rw (← c.self.view_is) (slots_of_in_order c.self.inside.is_free.items)

pub loop-place-preserved : goal.loop-place-preserved
loop-place-preserved c =
    let first = sym c.loop-place.invariant.free ∙ c.take_lowest.ensures.free in
    record {
      taken = rw c.loop-place.invariant.taken (out_next c.args.self.now.free c.args.out.now c.loop-place.place c.take_lowest.result c.take_lowest.new.self.free first (omega arith));
      free = rest_next c.args.self.now.free c.loop-place.place c.take_lowest.result c.take_lowest.new.self.free first;
      nodes = c.take_lowest.ensures.nodes ∙ c.loop-place.invariant.nodes;
    }

pub returns-clause-ordered : goal.returns-clause-ordered
returns-clause-ordered c = rw (← c.self.view_is) (slots_of_in_order c.self.inside.is_free.items)
