use Rattle.std.proofs.Common.{◌≡◌, ℕ, List, [], ◌∷◌, length, refl, sym, ap, subst, ◌∙◌, arith, Option, Some}
use Rattle.std.proofs.lemmas.List.Elements.{All-pop}
use Rattle.bz_threads.proofs.Joining.{joined_more}
use Rattle.bz_threads.proofs.batches.join_batches.Goals as goal
use Rattle.bz_threads.specs.Inside.Batches.{IsWorkers, lowered, IsJoined}
use Rattle.bz_threads.specs.declared.batch.Batch.{Batch}
use Rattle.bz_index.specs.FromWorld.LimitKind.{LimitKind}

pub loop-batch-preserved : goal.loop-batch-preserved
loop-batch-preserved c =
    let index = c.args.index.now in
    let batch = c.in-Some.batch in
    let lowest = c.loop-batch.lowest in
    let popped = All-pop (λ (j : Batch). IsWorkers index j.pass) _ _ (Some batch) c.in-Some.ensures.items c.loop-batch.invariant.1 in (
      c.join.ensures.pass,
      popped.0,
      λ waiting seen none.
          let was = subst (λ (batches : List Batch). IsJoined index waiting seen c.loop-batch.first batches lowest) c.in-Some.ensures.items (c.loop-batch.invariant.2 waiting seen none) in
          subst (λ (low : Option (ℕ × LimitKind)). IsJoined index waiting seen c.join.new.into c.pop.new.self.items low) (sym (c.lowest_of-lowest.ensures ∙ ap (λ (w : ℕ). lowered lowest w batch.stopped) c.worker-worker.ensures))
          (joined_more index waiting seen c.loop-batch.first c.join.new.into c.pop.new.self.items batch lowest was c.join.ensures.pass c.join.ensures.seen c.join.ensures.free),
    )

none_left : (batches : List Batch) → length batches ≡ 0 → batches ≡ []
none_left [] is = refl
none_left (batch ∷ batches) is = absurd (omega arith)

pub returns : goal.returns
returns c = λ waiting seen none.
    let cases = rw c.in_default.is at c.pop.ensures.cases in
    subst (λ (batches : List Batch). IsJoined c.args.index.now waiting seen c.loop-batch.first batches c.loop-batch.lowest) (none_left c.loop-batch.batches.items (sym c.loop-batch.batches.ok.0 ∙ cases.0)) (c.loop-batch.invariant.2 waiting seen none)
