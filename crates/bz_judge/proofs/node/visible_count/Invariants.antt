use Rattle.std.proofs.Common.{◌≡◌, ◌≤◌, length}
use Rattle.bz_slotted.specs.Page.{page}
use Rattle.bz_slotted.specs.ReadingLaws.{node_of}
use Rattle.bz_slotted.specs.Records.{records_to}
use Rattle.bz_judge.proofs.node.visible_count.Given as goal

abbrev pub invariant-loop-j : goal.invariant-loop-j
invariant-loop-j l = record {
  count : l.count ≡ length (records_to (node_of l.node.0) (page (node_of l.node.0)).meta l.j);
  few : l.count ≤ l.j;
}
