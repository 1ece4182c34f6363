use Rattle.std.proofs.Common.{◌≡◌, ◌++◌, [], drop, replicate}
use Rattle.bz_check.proofs.settle.forget.Given as goal

abbrev pub invariant-loop-w : goal.invariant-loop-w
invariant-loop-w l = l.all ≡ replicate l.w [] ++ drop l.w l.fn.all
