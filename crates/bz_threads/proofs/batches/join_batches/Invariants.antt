use Rattle.std.proofs.Common.{ℕ, List, length, None}
use Rattle.std.specs.Prelude.{All}
use Rattle.bz_call.specs.declared.calls.Call.{Call}
use Rattle.bz_index.specs.declared.shared.IndexEntry.{IndexEntry}
use Rattle.bz_threads.specs.Inside.Batches.{IsFirstOf, IsWorkers, IsJoined}
use Rattle.bz_threads.proofs.batches.join_batches.Given as goal

abbrev pub invariant-loop-batch : goal.invariant-loop-batch
invariant-loop-batch l = IsFirstOf l.index l.first × All (λ j. IsWorkers l.index j.pass) l.batches.items
    × ((waiting : List (ℕ × Call)) (seen : List IndexEntry) → IsJoined l.index waiting seen l.initial.first l.initial.batches.items None → IsJoined l.index waiting seen l.first l.batches.items l.lowest)

abbrev pub decreases-loop-batch : goal.decreases-loop-batch
decreases-loop-batch l = length l.batches.items
