use Rattle.std.proofs.Common.{refl}
use Rattle.bz_renew.proofs.Slots.{many-taken}
use Rattle.bz_merge.proofs.slots.take_two.Goals as goal

pub returns-then-take-clause-taken : goal.returns-then-take-clause-taken
returns-then-take-clause-taken c image = many-taken c.taken_slots_are_gone.ensures 2 c.args.slots.now c.take.new.out _ c.take.new.self c.take.ensures.ordered (c.if-take.ensures.enough.0 refl) c.if-take.ensures.taken c.if-take.ensures.kept image
