use Rattle.bz_layout.specs.declared.sizes.TheConstants.{NODE_WORDS}
use Rattle.bz_leaf.proofs.Known.{zeros}
use Rattle.bz_leaf.proofs.read_leaf.blank.Goals as goal

pub returns : goal.returns
returns c = zeros NODE_WORDS
