use Rattle.bz_slotted.specs.Page.{page}
use Rattle.bz_slotted.specs.ReadingLaws.{node_of}
use Rattle.bz_slotted.proofs.Neighbours.{ends-apart}
use Rattle.bz_slotted.proofs.entries.is_apart.Goals as goal

pub returns-then-ends_by : goal.returns-then-ends_by
returns-then-ends_by c = ends-apart (page (node_of c.args.words.now)) c.args.j c.args.lowest c.requires.above (c.ends_by.ensures c.if-ends_by.true)
