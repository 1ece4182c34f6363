use Rattle.bz_qsched.specs.QueueKept.{NoneOf}
use Rattle.bz_qsched.proofs.waiting.find_call.Given as goal

abbrev pub invariant-loop-at : goal.invariant-loop-at
invariant-loop-at l = NoneOf l.w l.from l.at l.calls
