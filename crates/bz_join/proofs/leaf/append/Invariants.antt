use Rattle.std.proofs.Common.{◌≡◌, ◌++◌, take}
use Rattle.bz_join.proofs.leaf.append.Given as goal

abbrev pub invariant-loop-key : goal.invariant-loop-key
invariant-loop-key l = l.records ≡ l.initial.records ++ take l.key-index l.more
