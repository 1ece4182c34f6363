use Rattle.bz_verdict.proofs.Running.{Runs}
use Rattle.bz_verdict.proofs.judge.judge_from_good_start.Given as goal

abbrev pub invariant-loop-i : goal.invariant-loop-i
invariant-loop-i l = Runs l.config l.fn.power l.journal.start l.journal.pages l.journal.past l.i l.pass l.broken l.stale l.asked.items
