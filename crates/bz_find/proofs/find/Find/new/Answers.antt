use Rattle.std.proofs.Common.{arith}
use Rattle.bz_leaf.proofs.Known.{known-by-path}
use Rattle.bz_find.proofs.find.Find.new.Goals as goal

pub returns-clause-facts : goal.returns-clause-facts
returns-clause-facts c s good p =
    let k = known-by-path s good c.args.key c.args.path c.last_link.result c.last_link.ensures p in
    (k, p, record { bounds = tt; few = omega arith; reads = omega arith }, c.last_link.ensures, tt)

pub returns-clause-last : goal.returns-clause-last
returns-clause-last c = (c.last_link.result, c.last_link.ensures)
