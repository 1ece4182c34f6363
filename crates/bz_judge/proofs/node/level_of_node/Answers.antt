use Rattle.std.specs.Prelude.{slice_index}
use Rattle.bz_content.specs.Resolving.{resolve}
use Rattle.bz_judge.proofs.NodeWords.{level-read}
use Rattle.bz_judge.proofs.node.level_of_node.Goals as goal

pub returns-clause-level : goal.returns-clause-level
returns-clause-level c = level-read c.args.config.now (resolve (slice_index c.args.image.now)) c.args.slot c.node_word.result c.node_word.ensures
