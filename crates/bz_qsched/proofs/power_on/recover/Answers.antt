use Rattle.bz_qsched.proofs.RecoveryLemmas.{waking_none, waking_more, waking_ends}
use Rattle.bz_qsched.proofs.power_on.recover.Goals as goal

pub loop-end-init : goal.loop-end-init
loop-end-init c = waking_none c.args.world.now c.args.fuse.now c.requires

pub loop-end-preserved : goal.loop-end-preserved
loop-end-preserved c = waking_more c.args.world.now c.loop-end.world c.recover_once.new.world c.args.fuse.now c.loop-end.fuse c.recover_once.new.fuse c.loop-end.invariant c.in_default.ensures.answers

pub returns-in-Some : goal.returns-in-Some
returns-in-Some c = waking_ends c.args.world.now c.loop-end.world c.recover_once.new.world c.args.fuse.now c.loop-end.fuse c.recover_once.new.fuse c.loop-end.invariant c.in-Some.end c.in-Some.ensures.answers
