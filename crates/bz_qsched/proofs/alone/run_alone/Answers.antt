use Rattle.std.proofs.Common.{arith}
use Rattle.bz_qsched.specs.Fuses.{with_fuse}
use Rattle.bz_qsched.proofs.AloneLemmas.{ending_none, ending_more, ending_stops, ending_done}
use Rattle.bz_qsched.proofs.alone.run_alone.Goals as goal

pub loop-w-init : goal.loop-w-init
loop-w-init c = ending_none c.args.world.now (with_fuse c.args.queue.now c.args.fuse.now) c.requires.ready

pub loop-w-preserved : goal.loop-w-preserved
loop-w-preserved c = ending_more c.loop-w.w c.args.world.now (with_fuse c.args.queue.now c.args.fuse.now) c.loop-w.world (with_fuse c.loop-w.queue c.loop-w.fuse) _ _ c.loop-w-test.true c.loop-w.invariant c.in-Finished.ensures.ends

pub returns-in-Stopped : goal.returns-in-Stopped
returns-in-Stopped c = record { ends = ending_stops c.loop-w.w c.args.world.now (with_fuse c.args.queue.now c.args.fuse.now) c.loop-w.world (with_fuse c.loop-w.queue c.loop-w.fuse) c.in-Stopped.why _ _ c.loop-w-test.true c.loop-w.invariant c.in-Stopped.ensures.ends }

pub returns : goal.returns
returns c = record { ends = ending_done c.loop-w.w c.args.world.now (with_fuse c.args.queue.now c.args.fuse.now) c.loop-w.world (with_fuse c.loop-w.queue c.loop-w.fuse) (omega (arith, c.loop-w-test.false)) c.loop-w.invariant }

pub end_worker-requires-clause-worker : goal.end_worker-requires-clause-worker
end_worker-requires-clause-worker c = record { some = omega arith; most = omega arith }
