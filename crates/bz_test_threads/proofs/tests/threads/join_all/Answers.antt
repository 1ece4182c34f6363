use Rattle.std.proofs.Common.{◌<◌, Some, arith}
use Rattle.std.proofs.lemmas.List.Elements.{All-pop}
use Rattle.bz_index.specs.Passes.{worker_of, IsPassOf}
use Rattle.bz_test_threads.proofs.tests.threads.join_all.Goals as goal

pub join_back-requires-clause-pass : goal.join_back-requires-clause-pass
join_back-requires-clause-pass g c =
    let popped = All-pop (λ j. IsPassOf c.args.index.now j.pass × (0 < worker_of j.pass)) _ _ (Some c.in-Some.job) c.in-Some.ensures.items c.loop-job.invariant.2 in
    (popped.1.0, λ none. absurd (omega (arith, popped.1.1, none)))

pub loop-job-preserved : goal.loop-job-preserved
loop-job-preserved g c =
    (c.join_back.ensures.0, c.join_back.ensures.1, (All-pop (λ j. IsPassOf c.args.index.now j.pass × (0 < worker_of j.pass)) _ _ (Some c.in-Some.job) c.in-Some.ensures.items c.loop-job.invariant.2).0)
