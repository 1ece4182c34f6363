use Rattle.std.proofs.Common.{Some, refl, ◌-◌}
use Rattle.bz_qsched.proofs.BurnLemmas.{before_cut}
use Rattle.bz_qsched.proofs.RecoveryLemmas.{recovering_is_not_off}
use Rattle.bz_qsched.proofs.WakeLemmas.{start_stops, wakes, wake_limit, wake_due, wake_cut, on_recovers}
use Rattle.bz_qsched.proofs.power_on.power_armed.Goals as goal

pub returns-then-not-start_recovery : goal.returns-then-not-start_recovery
returns-then-not-start_recovery c = start_stops (Some c.args.cut) c.args.world.now _ (c.if-not-start_recovery.ensures.stopped refl)

pub recover-requires : goal.recover-requires
recover-requires c = on_recovers _ _ (c.start_recovery.ensures.started c.if-not-start_recovery.false)

pub returns-in-Finished : goal.returns-in-Finished
returns-in-Finished c =
    let s = c.start_recovery.ensures.started c.if-not-start_recovery.false in
    let e = c.in-Finished.ensures in
    wakes c.args.world.now c.start_recovery.new.world c.recover.new.world (Some (c.args.cut.flush - 1)) c.recover.new.fuse s e.0 (Some c.args.cut)
    (before_cut c.args.cut c.start_recovery.new.world.log.past c.recover.new.world.log.past _ c.recover.new.fuse c.requires.cut refl e.0.burns) e.1 e.2

pub returns-in-Stopped-Limit : goal.returns-in-Stopped-Limit
returns-in-Stopped-Limit c =
    let s = c.start_recovery.ensures.started c.if-not-start_recovery.false in
    let e = rw c.in-Stopped-Limit.field-0-is at c.in-Stopped-Limit.ensures in
    wake_limit c.args.world.now c.start_recovery.new.world c.recover.new.world (Some (c.args.cut.flush - 1)) c.recover.new.fuse s e.0 (Some c.args.cut) c.in-Stopped-Limit.which
    (before_cut c.args.cut c.start_recovery.new.world.log.past c.recover.new.world.log.past _ c.recover.new.fuse c.requires.cut refl e.0.burns) e.1 e.3 e.4

pub returns-in-Stopped-Due : goal.returns-in-Stopped-Due
returns-in-Stopped-Due c =
    let s = c.start_recovery.ensures.started c.if-not-start_recovery.false in
    let e = rw c.in-Stopped-Due.field-0-is at c.in-Stopped-Due.ensures in
    let due = wake_due c.args.world.now c.start_recovery.new.world c.recover.new.world (Some (c.args.cut.flush - 1)) c.recover.new.fuse s e.0 c.args.cut c.requires.cut refl e.1 e.4.1 in
    wake_cut c.args.world.now c.start_recovery.new.world c.recover.new.world (Some (c.args.cut.flush - 1)) c.recover.new.fuse s e.0 c.args.cut c.cut_off.result c.cut_off.new.world due c.cut_off.ensures

pub cut_off-requires : goal.cut_off-requires
cut_off-requires c = record { powered = recovering_is_not_off c.recover.new.world c.in-Stopped-Due.ensures.2; words = rw (c.in-Stopped-Due.ensures.0.stays.numbers, (c.start_recovery.ensures.started c.if-not-start_recovery.false).stays.numbers) c.requires.words }
