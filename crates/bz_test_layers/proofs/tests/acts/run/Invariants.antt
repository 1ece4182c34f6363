use Rattle.std.proofs.Common.{◌≡◌, length}
use Rattle.bz_swap_cells.specs.Store.{IsStore}
use Rattle.bz_test_layers.proofs.tests.acts.run.Given as goal

abbrev pub invariant-loop-n : goal.invariant-loop-n
invariant-loop-n l = record {
  typed : IsStore l.cells;
  swaps : l.cells.swaps ≡ 4;
  size : length l.cells.cached ≡ 96;
  workers : length l.cells.next_tags ≡ length l.fn.cells.next_tags;
}
