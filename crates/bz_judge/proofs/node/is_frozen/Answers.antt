use Rattle.std.proofs.Common.{ap}
use Rattle.bz_layout.specs.declared.sizes.TheConstants.{STATUS_AT}
use Rattle.bz_slotted.specs.ReadingLaws.{node_of}
use Rattle.bz_slotted.proofs.Unpacking.{status-is}
use Rattle.bz_word.specs.declared.status.Status.{Status}
use Rattle.bz_judge.proofs.node.is_frozen.Goals as goal

pub returns : goal.returns
returns c = ap (λ (s : Status). s.frozen) (status-is c.in-Some.status (node_of c.args.node.now.0 STATUS_AT) c.in-Some.ensures.word.0 c.in-Some.ensures.word.1)
