use Rattle.std.specs.List.Sorted.{IsPermutation}
use Rattle.bz_node.specs.Records.{AreRising, keys_of}
use Rattle.bz_node.proofs.Pairs.{pairs_to}
use Rattle.bz_join.proofs.records.records_of.Given as goal

abbrev pub invariant-loop-i : goal.invariant-loop-i
invariant-loop-i l = record {
  same : IsPermutation (pairs_to l.words l.i) l.out;
  rising : AreRising (keys_of l.out);
}
