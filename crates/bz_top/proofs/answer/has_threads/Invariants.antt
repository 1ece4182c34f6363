use Rattle.std.proofs.Common.{◌≡◌, drop}
use Rattle.bz_top.specs.Threads.{has_threads}
use Rattle.bz_top.proofs.answer.has_threads.Given as goal

abbrev pub invariant-loop-item : goal.invariant-loop-item
invariant-loop-item l = has_threads l.items ≡ has_threads (drop l.item-index l.items)
