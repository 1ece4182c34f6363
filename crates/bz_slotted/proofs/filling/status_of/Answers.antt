use Rattle.bz_layout.specs.declared.sizes.TheConstants.{STATUS_AT}
use Rattle.bz_slotted.specs.ReadingLaws.{node_of}
use Rattle.bz_slotted.proofs.Unpacking.{status-is}
use Rattle.bz_slotted.proofs.filling.status_of.Goals as goal

pub returns-clause-says : goal.returns-clause-says
returns-clause-says c = status-is c.in-Some.status (node_of c.args.words.now STATUS_AT) c.in-Some.ensures.word.0 c.in-Some.ensures.word.1
