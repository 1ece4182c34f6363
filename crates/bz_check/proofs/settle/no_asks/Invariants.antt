use Rattle.std.proofs.Common.{◌≡◌, [], replicate}
use Rattle.bz_check.proofs.settle.no_asks.Given as goal

abbrev pub invariant-loop : goal.invariant-loop
invariant-loop l = l.all.items ≡ replicate l.counter []
