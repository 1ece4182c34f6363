use Rattle.bz_top.proofs.QueueEnds.{world_ends}
use Rattle.bz_top.proofs.answer.answer_of.Goals as goal

pub returns-in-Ended : goal.returns-in-Ended
returns-in-Ended c o ended = world_ends o _ _ _ _ _ c.without_queue.ensures.status c.without_queue.ensures.lab c.without_queue.ensures.queue (rw c.in-Ended.is at ended)

pub returns-in-NeedsThreads : goal.returns-in-NeedsThreads
returns-in-NeedsThreads c o needs = rw c.in-NeedsThreads.is at needs
