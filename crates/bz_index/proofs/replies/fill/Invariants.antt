use Rattle.std.proofs.Common.{◌≡◌, take}
use Rattle.bz_index.proofs.replies.fill.Given as goal

abbrev pub invariant-loop-key : goal.invariant-loop-key
invariant-loop-key l = l.page ≡ take l.key-index l.pairs
