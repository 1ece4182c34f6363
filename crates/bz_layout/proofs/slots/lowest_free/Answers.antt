use Rattle.std.proofs.Common.{arith}
use Rattle.bz_layout.proofs.FreePlaces.{free_place_inside}
use Rattle.bz_layout.proofs.slots.lowest_free.Goals as goal

pub bounds-is_free-slot : goal.bounds-is_free-slot
bounds-is_free-slot c = free_place_inside c.args.is_free.now c.loop-slot.slot c.loop-slot.invariant c.requires.some

pub overflow_add-slot : goal.overflow_add-slot
overflow_add-slot c = omega (arith, free_place_inside c.args.is_free.now c.loop-slot.slot c.loop-slot.invariant c.requires.some)

pub loop-slot-smaller : goal.loop-slot-smaller
loop-slot-smaller c = omega (arith, free_place_inside c.args.is_free.now c.loop-slot.slot c.loop-slot.invariant c.requires.some)
