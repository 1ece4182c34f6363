use Rattle.std.proofs.Common.{ap}
use Rattle.bz_top.proofs.QueueTold.{told_bytes}
use Rattle.bz_top.proofs.queue.run_bytes.Goals as goal

pub returns : goal.returns
returns g c =
    told_bytes c.args.marks c.args.bytes.now _ _ _ _ _ _ _ _ _ c.run_queue-queue.ensures.later _ _ c.run_queue-queue.ensures.runs
    (λ none. (ap g.K.Sink.held (c.run_queue-queue.ensures.none none), ap g.K.Sink.faults (c.run_queue-queue.ensures.none none)))
    (λ wants. (ap g.K.Sink.held (c.run_queue-queue.ensures.memory wants), ap g.K.Sink.faults (c.run_queue-queue.ensures.memory wants)))
    c.is_right.ensures c.tell.ensures
