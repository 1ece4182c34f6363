use Rattle.std.proofs.Common.{◌∙◌, sym}
use Rattle.std.proofs.lemmas.List.{nil_from_length}
use Rattle.bz_node.proofs.Entries.{packed_nil, length-packed_nil}
use Rattle.bz_node.proofs.writing.put_bound.Goals as goal

pub returns-in-None : goal.returns-in-None
returns-in-None c =
    let long = rw c.in-None.is at c.requires in
    rw c.in-None.is (nil_from_length c.args.out.now (long ∙ length-packed_nil) ∙ sym packed_nil)
