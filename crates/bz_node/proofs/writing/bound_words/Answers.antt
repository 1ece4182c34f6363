use Rattle.std.proofs.Common.{sym}
use Rattle.bz_node.proofs.Entries.{length-packed_nil}
use Rattle.bz_node.proofs.writing.bound_words.Goals as goal

pub returns-in-None-clause-count : goal.returns-in-None-clause-count
returns-in-None-clause-count c = rw c.in-None.is (sym length-packed_nil)
