use Rattle.std.proofs.Common.{◌≡◌}
use Rattle.std.specs.Prelude.{vec_capacity}
use Rattle.bz_index.specs.Passes.{seen_by}
use Rattle.bz_threads.proofs.Opening.{Opening}
use Rattle.bz_threads.proofs.batches.open_batches.Given as goal

abbrev pub invariant-loop-worker : goal.invariant-loop-worker
invariant-loop-worker l = Opening l.index l.initial.queue (seen_by l.initial.first) l.worker l.first l.queue l.batches.items × (vec_capacity l.batches ≡ vec_capacity l.initial.batches)
