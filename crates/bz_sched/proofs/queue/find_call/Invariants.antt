use Rattle.bz_sched.specs.QueueKept.{NoneOf}
use Rattle.bz_sched.proofs.queue.find_call.Given as goal

abbrev pub invariant-loop-at : goal.invariant-loop-at
invariant-loop-at l = NoneOf l.w l.from l.at l.calls
