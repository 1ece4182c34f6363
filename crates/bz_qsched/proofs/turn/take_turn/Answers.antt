use Rattle.bz_qsched.specs.Fuses.{with_fuse}
use Rattle.bz_qsched.proofs.TurnLemmas.{turn_stops, turn_ends}
use Rattle.bz_qsched.proofs.turn.take_turn.Goals as goal

pub step-requires-clause-ready : goal.step-requires-clause-ready
step-requires-clause-ready c = (c.in-Finished.ensures.ends c.args.fuse.now).0.ready

pub returns-in-Stopped-clause-ends : goal.returns-in-Stopped-clause-ends
returns-in-Stopped-clause-ends c =
    turn_stops c.args.world.now (with_fuse c.args.queue.now c.args.fuse.now) c.args.w c.in-Stopped.why _ _ c.requires.busy (c.in-Stopped.ensures.ends c.args.fuse.now)

pub returns-in-Finished-clause-ends : goal.returns-in-Finished-clause-ends
returns-in-Finished-clause-ends c =
    turn_ends c.args.world.now (with_fuse c.args.queue.now c.args.fuse.now) c.args.w c.get_ready.new.world (with_fuse c.get_ready.new.queue c.args.fuse.now) c.step.result c.step.new.world (with_fuse c.get_ready.new.queue c.step.new.fuse) c.requires.busy
    (c.in-Finished.ensures.ends c.args.fuse.now) (c.step.ensures.ends c.get_ready.new.queue)
