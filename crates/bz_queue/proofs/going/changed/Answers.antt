use Rattle.bz_queue.proofs.Judging.{effect-end}
use Rattle.bz_queue.proofs.going.changed.Goals as goal

pub end-requires-clause-right : goal.end-requires-clause-right
end-requires-clause-right c = effect-end c.args.parts.now c.args.w c.args.serving _ c.in-Swap.word c.in-Some.at c.change_reply.result c.requires.must c.in-Swap.is c.in-Some.is c.change_reply.ensures
