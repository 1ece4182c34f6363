use Rattle.std.proofs.Common.{◌<◌}
use Rattle.std.proofs.lemmas.List.Elements.{All-push}
use Rattle.bz_index.specs.Passes.{worker_of, IsPassOf}
use Rattle.bz_test_threads.proofs.tests.threads.split_all.Goals as goal

pub loop-worker-preserved : goal.loop-worker-preserved
loop-worker-preserved g c =
    (c.split_any-pass.ensures.first.0, c.split_any-pass.ensures.first.1, rw c.keep.ensures (All-push (λ j. IsPassOf c.args.index.now j.pass × (0 < worker_of j.pass)) _ _ c.loop-worker.invariant.2 c.split_any-pass.ensures.pass))
