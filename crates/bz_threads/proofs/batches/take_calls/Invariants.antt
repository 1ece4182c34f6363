use Rattle.std.proofs.Common.{length}
use Rattle.bz_sched.specs.Queued.{calls_of}
use Rattle.bz_threads.proofs.Taking.{Taking}
use Rattle.bz_threads.proofs.batches.take_calls.Given as goal

abbrev pub invariant-loop-call : goal.invariant-loop-call
invariant-loop-call l = Taking l.worker l.initial.queue l.queue l.calls.items

abbrev pub decreases-loop-call : goal.decreases-loop-call
decreases-loop-call l = length (calls_of l.worker l.queue.calls)
