use Rattle.std.proofs.Common.{arith}
use Rattle.bz_node.proofs.MadeNodes.{inner_reads}
use Rattle.bz_node.proofs.inner_nodes.inner.Goals as goal

pub returns-clause-reads : goal.returns-clause-reads
returns-clause-reads c = inner_reads c.args.children.now c.args.low c.args.high c.args.level c.node_of.result (omega arith) c.node_of.ensures.fits c.node_of.ensures.words c.node_of.ensures.valid
