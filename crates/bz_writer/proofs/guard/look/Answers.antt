use Rattle.std.proofs.Common.{refl}
use Rattle.bz_renew.proofs.Slots.{many-taken}
use Rattle.bz_writer.proofs.guard.look.Goals as goal

pub returns-then-take : goal.returns-then-take
returns-then-take c = (c.is_read.ensures.0 c.if-not-is_read.false, (refl, λ image. many-taken c.taken_slots_are_gone.ensures c.args.count c.args.slots.now c.take.new.out _ c.take.new.self c.take.ensures.ordered (c.if-take.ensures.enough.0 refl) c.if-take.ensures.taken c.if-take.ensures.kept image))
