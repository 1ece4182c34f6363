use Rattle.std.proofs.Common.{inl, inr, ap, Err}
use Rattle.bz_top.proofs.QueueTold.{answered_early}
use Rattle.bz_top.proofs.queue.run_queue_source.Goals as goal

pub returns-in-Ok : goal.returns-in-Ok
returns-in-Ok g c = inr (record { bytes = c.in-Ok.bytes.items; whole = c.in-Ok.ensures.all; fits = c.in-Ok.ensures.short; ran = rw c.deref.ensures.value at c.run_bytes.ensures })

pub returns-in-Err-Failed : goal.returns-in-Err-Failed
returns-in-Err-Failed g c =
    answered_early _ _ _ _ _ _ _ _ c.without_queue.ensures.status c.without_queue.ensures.lab c.without_queue.ensures.queue
    (inl (record { rose = c.in-Err-Failed.ensures.failed (ap Err c.in-Err-Failed.field-0-is); no_lab = c.refuse.ensures.lab; said = c.refuse.ensures.wrote }))

pub returns-in-Err-TooLong : goal.returns-in-Err-TooLong
returns-in-Err-TooLong g c =
    answered_early _ _ _ _ _ _ _ _ c.without_queue-in-Err-TooLong.ensures.status c.without_queue-in-Err-TooLong.ensures.lab c.without_queue-in-Err-TooLong.ensures.queue
    (inr (inl (record { more = c.in-Err-TooLong.ensures.too_long (ap Err c.in-Err-TooLong.field-0-is); no_lab = c.refuse-in-Err-TooLong.ensures.lab; said = c.refuse-in-Err-TooLong.ensures.wrote })))

pub returns-in-Err-Memory : goal.returns-in-Err-Memory
returns-in-Err-Memory g c =
    answered_early _ _ _ _ _ _ _ _ c.without_queue-in-Err-Memory.ensures.status c.without_queue-in-Err-Memory.ensures.lab c.without_queue-in-Err-Memory.ensures.queue
    (inr (inr (record { no_lab = c.no_memory.ensures.lab; said = c.no_memory.ensures.wrote })))
