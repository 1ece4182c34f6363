use Rattle.bz_leaf.proofs.Known.{known-by-path}
use Rattle.bz_leaf.proofs.read_leaf.ReadLeaf.new.Goals as goal

pub returns-clause-facts : goal.returns-clause-facts
returns-clause-facts c s good p = ((c.blank.ensures, known-by-path s good c.args.key c.args.path c.last_link.result c.last_link.ensures p), p, c.last_link.ensures)
