use Rattle.std.proofs.Common.{ap}
use Rattle.bz_bus.proofs.Joins.{told}
use Rattle.bz_bus.proofs.bus.Bus.join.Goals as goal

pub learn-requires-clause-joined : goal.learn-requires-clause-joined
learn-requires-clause-joined g c = let e = ap (λ m. m.0.stage) c.glue.ensures.joined in (_, e)

pub returns-clause-seen : goal.returns-clause-seen
returns-clause-seen g c = let l = c.learn.ensures.learnt in
    told _ c.args.into.now.seat.me.0 c.args.from.seat.me.0 c.glue.new.seat.me.0 c.learn.new.seat.me.0 _ _ (ap (λ m. m.0) c.glue.ensures.joined) (ap (λ m. m.0.seen) l.0) l.1 c.args.from.agrees.0 c.args.into.now.agrees.1
