use Rattle.bz_layout.specs.declared.sizes.TheConstants.{HEADER_AT}
use Rattle.bz_slotted.specs.ReadingLaws.{node_of}
use Rattle.bz_slotted.proofs.Unpacking.{header-is}
use Rattle.bz_slotted.proofs.filling.header_of.Goals as goal

pub returns : goal.returns
returns c = header-is c.in-Some.header (node_of c.args.words.now HEADER_AT) c.in-Some.ensures.word.0 c.in-Some.ensures.word.1
