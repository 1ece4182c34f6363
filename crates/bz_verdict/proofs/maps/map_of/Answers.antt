use Rattle.std.proofs.Common.{◌-◌, drop, length, arith, sym, subst}
use Rattle.std.specs.FinMap.{from_entries}
use Rattle.bz_check.specs.Pairs.{Holds}
use Rattle.bz_verdict.proofs.Pairing.{Pairs, holds_none, holds_one_more}
use Rattle.bz_verdict.proofs.maps.map_of.Goals as goal

pub loop-i-init : goal.loop-i-init
loop-i-init c = subst (λ (all : Pairs). Holds (from_entries (drop (length c.args.pairs.now - 0) c.args.pairs.now)) all) (sym c.new-map.ensures.empty) (holds_none c.args.pairs.now (length c.args.pairs.now - 0) (omega arith))

pub loop-i-preserved : goal.loop-i-preserved
loop-i-preserved c = holds_one_more c.args.pairs.now c.loop-i.map.entries c.insert.new.self.entries c.loop-i.i c.index-pairs-count.result c.loop-i-test.true c.index-pairs-count.is c.loop-i.invariant c.in_ok-insert.ensures.updates.0
