use Rattle.std.proofs.Common.{length}
use Rattle.bz_index.specs.Passes.{seen_by}
use Rattle.bz_threads.proofs.Joining.{Giving}
use Rattle.bz_threads.proofs.batches.give_back.Given as goal

abbrev pub invariant-loop-batch : goal.invariant-loop-batch
invariant-loop-batch l = Giving l.index (seen_by l.initial.first) l.first l.batches.items

abbrev pub decreases-loop-batch : goal.decreases-loop-batch
decreases-loop-batch l = length l.batches.items
