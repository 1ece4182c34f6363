use Rattle.std.proofs.Common.{◌≡◌, replicate, None}
use Rattle.bz_world.proofs.open.none_table.Given as goal

abbrev pub invariant-loop : goal.invariant-loop
invariant-loop g l = l.table.items ≡ replicate l.counter None
