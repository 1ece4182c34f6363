use Rattle.std.proofs.Common.{◌≡◌, ◌++◌, [], drop, replicate}
use Rattle.bz_pm.proofs.asks.forget.Given as goal

abbrev pub invariant-loop-w : goal.invariant-loop-w
invariant-loop-w l = l.all ≡ replicate l.w [] ++ drop l.w l.fn.all
