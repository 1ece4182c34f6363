use Rattle.bz_queue.proofs.Judging.{none-end}
use Rattle.bz_queue.proofs.going.hear_read.Goals as goal

pub end-requires-clause-right : goal.end-requires-clause-right
end-requires-clause-right c = none-end c.args.parts.now c.args.w c.args.serving c.in-Again.counter c.in-Again.at c.args.value c.none_reply.result c.requires.must c.in-Again.is c.if-value-counter.true c.none_reply.ensures
