use Rattle.bz_check.proofs.Mapping.{holds_insert}
use Rattle.bz_check.proofs.pairs.put.Goals as goal

pub returns : goal.returns
returns c = λ at h. holds_insert at c.args.map.now.entries c.insert.new.self.entries c.args.key c.args.payload h c.in_ok-insert.ensures.updates.0
