use Rattle.std.proofs.Common.{◌-◌, drop}
use Rattle.std.specs.FinMap.{from_entries}
use Rattle.bz_check.specs.Pairs.{Holds}
use Rattle.bz_verdict.proofs.maps.map_of.Given as goal

abbrev pub invariant-loop-i : goal.invariant-loop-i
invariant-loop-i l = Holds (from_entries (drop (l.count - l.i) l.pairs)) l.map.entries
