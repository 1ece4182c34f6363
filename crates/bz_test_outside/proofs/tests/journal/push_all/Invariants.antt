use Rattle.std.proofs.Common.{◌≡◌}
use Rattle.bz_judge.specs.Held.{IsImage}
use Rattle.bz_test_outside.proofs.tests.journal.push_all.Given as goal

abbrev pub invariant-loop-mark : goal.invariant-loop-mark
invariant-loop-mark g l = IsImage l.journal.start × (l.journal.limits.calls ≡ l.journal.limits.marks)
