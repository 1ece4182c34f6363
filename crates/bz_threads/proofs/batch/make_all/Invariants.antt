use Rattle.bz_index.specs.Passes.{worker_of, seen_by}
use Rattle.bz_threads.proofs.Making.{Making}
use Rattle.bz_threads.proofs.batch.make_all.Given as goal

abbrev pub invariant-loop-call : goal.invariant-loop-call
invariant-loop-call g l = Making l.index (worker_of l.fn.pass) l.calls l.call-index (seen_by l.fn.pass) l.pass
