use Rattle.std.proofs.Common.{None, refl}
use Rattle.bz_qsched.proofs.BurnLemmas.{never_due}
use Rattle.bz_qsched.proofs.WakeLemmas.{start_stops, wakes, wake_limit, on_recovers}
use Rattle.bz_qsched.proofs.power_on.power_unarmed.Goals as goal

pub returns-then-not-start_recovery : goal.returns-then-not-start_recovery
returns-then-not-start_recovery c = start_stops None c.args.world.now _ (c.if-not-start_recovery.ensures.stopped refl)

pub recover-requires : goal.recover-requires
recover-requires c = on_recovers _ _ (c.start_recovery.ensures.started c.if-not-start_recovery.false)

pub returns-in-Finished : goal.returns-in-Finished
returns-in-Finished c =
    let s = c.start_recovery.ensures.started c.if-not-start_recovery.false in
    wakes c.args.world.now c.start_recovery.new.world c.recover.new.world None c.recover.new.fuse s c.in-Finished.ensures.0 None tt c.in-Finished.ensures.1 c.in-Finished.ensures.2

pub returns-in-Stopped-Limit : goal.returns-in-Stopped-Limit
returns-in-Stopped-Limit c =
    let s = c.start_recovery.ensures.started c.if-not-start_recovery.false in
    let e = rw c.in-Stopped-Limit.field-0-is at c.in-Stopped-Limit.ensures in
    wake_limit c.args.world.now c.start_recovery.new.world c.recover.new.world None c.recover.new.fuse s e.0 None c.in-Stopped-Limit.which tt e.1 e.3 e.4

pub unreachable-requires : goal.unreachable-requires
unreachable-requires c =
    let e = rw c.in-Stopped-Due.field-0-is at c.in-Stopped-Due.ensures in
    never_due c.start_recovery.new.world.log.past c.recover.new.world.log.past None c.recover.new.fuse refl e.4.1 e.0.burns
