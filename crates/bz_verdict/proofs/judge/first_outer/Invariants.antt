use Rattle.std.specs.Prelude.{◌<◌, ℕ}
use Rattle.bz_mark.specs.Moments.{IsInner}
use Rattle.bz_verdict.proofs.judge.first_outer.Given as goal

abbrev pub invariant-loop-i : goal.invariant-loop-i
invariant-loop-i l = (m : ℕ) → m < l.i → IsInner m l.journal.past
