use Rattle.bz_node.proofs.MadeNodes.{leaf_reads}
use Rattle.bz_node.proofs.leaves.leaf.Goals as goal

pub returns-clause-reads : goal.returns-clause-reads
returns-clause-reads c = leaf_reads c.args.records.now c.args.low c.args.high c.node_of.result c.requires c.node_of.ensures.fits c.node_of.ensures.words c.node_of.ensures.valid
