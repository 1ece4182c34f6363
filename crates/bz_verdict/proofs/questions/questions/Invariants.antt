use Rattle.bz_verdict.specs.Questions.{AreAsked}
use Rattle.bz_verdict.proofs.questions.questions.Given as goal

abbrev pub invariant-loop-i : goal.invariant-loop-i
invariant-loop-i l = AreAsked l.journal.past l.i l.asked.items
