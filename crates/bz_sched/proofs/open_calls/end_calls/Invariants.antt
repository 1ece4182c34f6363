use Rattle.bz_sched.proofs.OpenLemmas.{EndingCalls}
use Rattle.bz_sched.proofs.open_calls.end_calls.Given as goal

abbrev pub invariant-loop-w : goal.invariant-loop-w
invariant-loop-w l = EndingCalls l.w l.initial.world l.world
