use Rattle.std.proofs.Common.{arith, refl}
use Rattle.bz_sched.specs.Fuses.{with_fuse}
use Rattle.bz_sched.proofs.AloneLemmas.{ending_none, ending_more, ending_stops, ending_done}
use Rattle.bz_sched.proofs.alone.run_alone.Goals as goal

pub loop-w-init : goal.loop-w-init
loop-w-init c = (ending_none c.args.world.now (with_fuse c.args.queue.now c.args.fuse.now) c.requires.ready, λ most between. between)

pub loop-w-preserved : goal.loop-w-preserved
loop-w-preserved c = (
  ending_more c.loop-w.w c.args.world.now (with_fuse c.args.queue.now c.args.fuse.now) c.loop-w.world (with_fuse c.loop-w.queue c.loop-w.fuse) _ _ c.loop-w-test.true c.loop-w.invariant.0 c.in-Finished.ensures.ends,
  λ most between. (c.in-Finished.ensures.enough most (c.loop-w.invariant.1 most between)).1,
)

pub returns-in-Stopped-clause-ends : goal.returns-in-Stopped-clause-ends
returns-in-Stopped-clause-ends c = ending_stops c.loop-w.w c.args.world.now (with_fuse c.args.queue.now c.args.fuse.now) c.loop-w.world (with_fuse c.loop-w.queue c.loop-w.fuse) c.in-Stopped.why _ _ c.loop-w-test.true c.loop-w.invariant.0 c.in-Stopped.ensures.ends

pub returns-in-Stopped-clause-enough : goal.returns-in-Stopped-clause-enough
returns-in-Stopped-clause-enough c = λ most between. let never = (c.in-Stopped.ensures.enough most (c.loop-w.invariant.1 most between)).0 in absurd (cc never)

pub returns-clause-ends : goal.returns-clause-ends
returns-clause-ends c = ending_done c.loop-w.w c.args.world.now (with_fuse c.args.queue.now c.args.fuse.now) c.loop-w.world (with_fuse c.loop-w.queue c.loop-w.fuse) (omega (arith, c.loop-w-test.false)) c.loop-w.invariant.0

pub returns-clause-enough : goal.returns-clause-enough
returns-clause-enough c = λ most between. (refl, c.loop-w.invariant.1 most between)

pub end_worker-requires-clause-worker : goal.end_worker-requires-clause-worker
end_worker-requires-clause-worker c = record { some = omega arith; most = omega arith }
