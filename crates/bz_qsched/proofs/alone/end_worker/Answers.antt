use Rattle.std.proofs.Common.{sym}
use Rattle.bz_qsched.specs.Fuses.{with_fuse}
use Rattle.bz_qsched.proofs.WordLemmas.{some_none, some_more, one_ends, one_stops}
use Rattle.bz_qsched.proofs.alone.end_worker.Goals as goal

pub loop-world-init : goal.loop-world-init
loop-world-init c = some_none c.args.w c.args.world.now (with_fuse c.args.queue.now c.args.fuse.now) c.requires.ready

pub loop-world-preserved : goal.loop-world-preserved
loop-world-preserved c = some_more c.args.w c.args.world.now (with_fuse c.args.queue.now c.args.fuse.now) c.loop-world.world (with_fuse c.loop-world.queue c.loop-world.fuse) _ _ c.loop-world.invariant c.in-Finished.ensures.ends

pub returns-in-Stopped : goal.returns-in-Stopped
returns-in-Stopped c = record { ends = one_stops c.args.w c.args.world.now (with_fuse c.args.queue.now c.args.fuse.now) c.loop-world.world (with_fuse c.loop-world.queue c.loop-world.fuse) c.in-Stopped.why _ _ c.loop-world.invariant c.in-Stopped.ensures.ends }

pub returns : goal.returns
returns c = record { ends = one_ends c.args.w c.args.world.now (with_fuse c.args.queue.now c.args.fuse.now) c.loop-world.world (with_fuse c.loop-world.queue c.loop-world.fuse) (sym c.loop-world-test.ensures) c.loop-world.invariant }
