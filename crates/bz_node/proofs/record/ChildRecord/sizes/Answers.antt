use Rattle.std.proofs.Common.{arith}
use Rattle.bz_node.proofs.Entries.{IsEntry-child}
use Rattle.bz_node.proofs.record.ChildRecord.sizes.Goals as goal

pub returns-clause-entry : goal.returns-clause-entry
returns-clause-entry c = IsEntry-child c.args.self.now (omega arith)
