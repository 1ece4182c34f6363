use Rattle.std.specs.Prelude.{slice_index}
use Rattle.bz_judge.proofs.NodeWords.{fault-read, raw-part}
use Rattle.bz_judge.proofs.node.fault_of_node.Goals as goal

pub returns : goal.returns
returns c =
    fault-read c.args.config.now (slice_index c.args.image.now) c.args.slot c.args.place.now.level c.args.place.now.low c.args.place.now.high _ _ _ c.requires.slot
    (raw-part c.args.config.now c.args.image.now c.args.slot c.node_at-start.result c.requires.scanned c.requires.slot c.node_at-start.ensures)
    c.requires.node c.node_fault.ensures
