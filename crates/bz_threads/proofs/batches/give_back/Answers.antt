use Rattle.std.proofs.Common.{◌≡◌, List, Some, subst}
use Rattle.std.proofs.lemmas.List.Elements.{All-pop}
use Rattle.bz_index.specs.Passes.{seen_by}
use Rattle.bz_threads.proofs.Joining.{Giving, giving_more}
use Rattle.bz_threads.proofs.batches.give_back.Goals as goal
use Rattle.bz_threads.specs.Inside.Batches.{IsWorkers}
use Rattle.bz_threads.specs.declared.batch.Batch.{Batch}

pub loop-batch-preserved : goal.loop-batch-preserved
loop-batch-preserved c =
    let index = c.args.index.now in
    let first = seen_by c.args.first.now in
    let was = c.loop-batch.invariant in
    let popped = All-pop (λ (batch : Batch). IsWorkers index batch.pass × (seen_by batch.pass ≡ first)) _ _ (Some c.in-Some.batch) c.in-Some.ensures.items was.back in
    giving_more index first c.loop-batch.first c.join.new.into c.pop.new.self.items c.in-Some.batch (subst (λ (batches : List Batch). Giving index first c.loop-batch.first batches) c.in-Some.ensures.items was) popped.0 popped.1.1 c.join.ensures.pass c.join.ensures.seen c.join.ensures.free
