use Rattle.std.proofs.Common.{◌+◌, get_or}
use Rattle.bz_layout.specs.declared.sizes.TheConstants.{META_AT}
use Rattle.bz_node.proofs.ReadWords.{meta_is}
use Rattle.bz_join.proofs.words.meta_of.Goals as goal

pub returns-clause-says : goal.returns-clause-says
returns-clause-says c = meta_is c.in-Some.meta (get_or c.args.words.now (META_AT + c.args.i) 0) c.in-Some.ensures.word.0 c.in-Some.ensures.word.1
