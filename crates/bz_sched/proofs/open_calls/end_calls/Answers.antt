use Rattle.std.proofs.Common.{arith}
use Rattle.bz_sched.proofs.OpenLemmas.{calls_none, calls_more, calls_stop, calls_done}
use Rattle.bz_sched.proofs.open_calls.end_calls.Goals as goal

pub loop-w-init : goal.loop-w-init
loop-w-init c = calls_none c.args.world.now c.requires.ready

pub loop-w-preserved : goal.loop-w-preserved
loop-w-preserved c = calls_more c.loop-w.w c.args.world.now c.loop-w.world c.end_call.new.world c.loop-w-test.true c.loop-w.invariant c.in-None.ensures

pub returns-in-Some : goal.returns-in-Some
returns-in-Some c = calls_stop c.loop-w.w c.args.world.now c.loop-w.world c.in-Some.which c.end_call.new.world c.loop-w-test.true c.loop-w.invariant c.in-Some.ensures

pub returns : goal.returns
returns c = calls_done c.loop-w.w c.args.world.now c.loop-w.world (omega (arith, c.loop-w-test.false)) c.loop-w.invariant

pub end_call-requires-clause-worker : goal.end_call-requires-clause-worker
end_call-requires-clause-worker c = record { some = omega arith; most = omega arith }
