use Rattle.std.proofs.Common.{◌∙◌, arith}
use Rattle.bz_index.specs.Passes.{seen_by}
use Rattle.bz_threads.proofs.Opening.{opening_more}
use Rattle.bz_threads.proofs.batches.open_batches.Goals as goal

pub open_batch-requires-clause-worker : goal.open_batch-requires-clause-worker
open_batch-requires-clause-worker c =
    let worker = c.loop-worker.worker in
    let was = c.loop-worker.invariant.0 in
    let all = c.requires.workers in
    (omega arith, omega arith, omega arith, was.later worker (omega arith))

pub loop-worker-preserved : goal.loop-worker-preserved
loop-worker-preserved c =
    let was = c.loop-worker.invariant in
    let e = c.in_ok-batch.ensures in (
      rw c.push_reserved.ensures.items
          (opening_more c.args.index.now c.args.queue.now (seen_by c.args.first.now) c.loop-worker.worker c.loop-worker.first c.loop-worker.queue c.loop-worker.batches.items was.0 c.open_batch.new.first c.open_batch.new.queue e.first e.free c.in_ok-batch.batch e.batch e.room e.others),
      c.push_reserved.ensures.capacity ∙ was.1,
    )
