use Rattle.std.proofs.Common.{◌≡◌, true}
use Rattle.bz_slotted.specs.Page.{page}
use Rattle.bz_slotted.specs.ReadingLaws.{node_of}
use Rattle.bz_slotted.specs.Reads.{BeginsAbove}
use Rattle.bz_slotted.specs.Rules.{apart_test}
use Rattle.bz_slotted.specs.Tests.{every}
use Rattle.bz_slotted.proofs.entries.all_apart.Given as goal

abbrev pub invariant-loop-j : goal.invariant-loop-j
invariant-loop-j l = record {
  apart : every l.j (λ j. every j (λ i. apart_test (page (node_of l.words)) i j)) ≡ true;
  above : BeginsAbove (page (node_of l.words)) l.j l.lowest;
}
