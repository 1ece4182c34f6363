use Rattle.std.proofs.Common.{sym, arith}
use Rattle.bz_qsched.specs.Fuses.{with_fuse}
use Rattle.bz_qsched.proofs.WordLemmas.{taking_none, taking_more, taking_idle, taking_all, word_stops}
use Rattle.bz_qsched.proofs.list.take_turns.Goals as goal

pub loop-taken-init : goal.loop-taken-init
loop-taken-init c = taking_none c.args.w c.args.world.now (with_fuse c.args.queue.now c.args.fuse.now) c.requires.ready

pub loop-taken-preserved : goal.loop-taken-preserved
loop-taken-preserved c = taking_more c.args.w c.loop-taken._taken c.args.world.now (with_fuse c.args.queue.now c.args.fuse.now) c.loop-taken.world (with_fuse c.loop-taken.queue c.loop-taken.fuse) _ _ c.loop-taken.invariant c.in-Finished.ensures.ends.0 c.in-Finished.ensures.ends.1

pub take_turn-requires-clause-ready : goal.take_turn-requires-clause-ready
take_turn-requires-clause-ready c = c.loop-taken.invariant.keeps.ready

pub returns-then-not-has_work : goal.returns-then-not-has_work
returns-then-not-has_work c =
    taking_idle c.args.w c.loop-taken._taken c.args.count c.args.world.now (with_fuse c.args.queue.now c.args.fuse.now) c.loop-taken.world (with_fuse c.loop-taken.queue c.loop-taken.fuse) c.loop-taken.auto._taken-end (sym c.if-not-has_work.ensures) c.loop-taken.invariant

pub returns-in-Stopped : goal.returns-in-Stopped
returns-in-Stopped c = word_stops c.args.w c.loop-taken._taken c.args.count c.args.world.now (with_fuse c.args.queue.now c.args.fuse.now) c.loop-taken.world (with_fuse c.loop-taken.queue c.loop-taken.fuse) c.in-Stopped.why _ _ c.loop-taken-test.true c.loop-taken.invariant c.in-Stopped.ensures.ends

pub returns : goal.returns
returns c = taking_all c.args.w c.loop-taken._taken c.args.count c.args.world.now (with_fuse c.args.queue.now c.args.fuse.now) c.loop-taken.world (with_fuse c.loop-taken.queue c.loop-taken.fuse) (omega (arith, c.loop-taken-test.false, c.loop-taken.auto._taken-end)) c.loop-taken.invariant
