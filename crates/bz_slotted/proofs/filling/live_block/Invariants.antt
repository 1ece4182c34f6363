use Rattle.std.proofs.Common.{◌≡◌, ◌≤◌, ◌*◌, ◌^◌}
use Rattle.bz_slotted.specs.Page.{page}
use Rattle.bz_slotted.specs.ReadingLaws.{node_of}
use Rattle.bz_slotted.specs.Records.{live_block as live_in}
use Rattle.bz_slotted.proofs.filling.live_block.Given as goal

abbrev pub invariant-loop-j : goal.invariant-loop-j
invariant-loop-j l = record {
  words : l.live ≡ live_in (page (node_of l.words)).meta l.j;
  small : l.live ≤ 2 ^ 17 * l.j;
}
