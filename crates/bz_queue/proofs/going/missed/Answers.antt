use Rattle.bz_queue.proofs.Judging.{missed-next}
use Rattle.bz_queue.proofs.going.missed.Goals as goal

pub read_next-requires : goal.read_next-requires
read_next-requires c = missed-next c.args.parts.now c.args.w c.args.serving c.counter_at-counter.result c.requires c.counter_at-counter.ensures
