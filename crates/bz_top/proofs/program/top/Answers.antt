use Rattle.bz_top.proofs.AnswerLemmas.{asked_job, asked_base, ended_threads}
use Rattle.bz_top.proofs.QueueEnds.{world_ends}
use Rattle.bz_top.proofs.program.top.Goals as goal

pub run_on_threads-requires-clause-script : goal.run_on_threads-requires-clause-script
run_on_threads-requires-clause-script g c = λ lives outlive. asked_job _ c.in-NeedsThreads.waiting c.in-NeedsThreads.ensures.answered

pub run_on_threads-requires-clause-marks : goal.run_on_threads-requires-clause-marks
run_on_threads-requires-clause-marks g c = λ lives outlive. c.in-NeedsThreads.ensures.answered.marks

pub run_on_threads-requires-clause-base : goal.run_on_threads-requires-clause-base
run_on_threads-requires-clause-base g c = λ lives outlive. asked_base _ c.in-NeedsThreads.waiting c.in-NeedsThreads.ensures.answered

pub returns-in-Ended : goal.returns-in-Ended
returns-in-Ended g c = record { ended = c.in-Ended.ensures.answered }

pub returns-in-NeedsThreads : goal.returns-in-NeedsThreads
returns-in-NeedsThreads g c = record {
  ended = world_ends _ _ _ _ _ _ c.without_queue.ensures.status c.without_queue.ensures.lab c.without_queue.ensures.queue (ended_threads _ _ _ c.in-NeedsThreads.waiting _ _ c.in-NeedsThreads.ensures.answered c.run_on_threads.ensures);
}
