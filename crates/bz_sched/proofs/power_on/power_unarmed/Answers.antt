use Rattle.std.proofs.Common.{None, refl}
use Rattle.bz_sched.proofs.BurnLemmas.{never_due}
use Rattle.bz_sched.proofs.FewLemmas.{starts_fresh, comes_on, not_stopped, not_refused}
use Rattle.bz_sched.proofs.WakeLemmas.{start_stops, wakes, wake_limit, on_recovers}
use Rattle.bz_sched.proofs.power_on.power_unarmed.Goals as goal

pub returns-then-not-start_recovery-clause-ends : goal.returns-then-not-start_recovery-clause-ends
returns-then-not-start_recovery-clause-ends c = start_stops None c.args.world.now _ (c.if-not-start_recovery.ensures.stopped refl)

pub recover-requires : goal.recover-requires
recover-requires c = on_recovers _ _ (c.start_recovery.ensures.started c.if-not-start_recovery.false)

pub returns-in-Finished-clause-ends : goal.returns-in-Finished-clause-ends
returns-in-Finished-clause-ends c =
    let s = c.start_recovery.ensures.started c.if-not-start_recovery.false in
    wakes c.args.world.now c.start_recovery.new.world c.recover.new.world None c.recover.new.fuse s c.in-Finished.ensures.ends.0 None tt c.in-Finished.ensures.ends.1

pub returns-in-Stopped-Limit-clause-ends : goal.returns-in-Stopped-Limit-clause-ends
returns-in-Stopped-Limit-clause-ends c =
    let s = c.start_recovery.ensures.started c.if-not-start_recovery.false in
    let e = rw c.in-Stopped-Limit.field-0-is at c.in-Stopped-Limit.ensures.ends in
    wake_limit c.args.world.now c.start_recovery.new.world c.recover.new.world None c.recover.new.fuse s e.0 None c.in-Stopped-Limit.which tt e.1 e.3 e.4

pub unreachable-requires : goal.unreachable-requires
unreachable-requires c =
    let e = rw c.in-Stopped-Due.field-0-is at c.in-Stopped-Due.ensures.ends in
    never_due c.start_recovery.new.world.log.past c.recover.new.world.log.past None c.recover.new.fuse refl e.4.1 e.0.burns

pub returns-then-not-start_recovery-clause-enough : goal.returns-then-not-start_recovery-clause-enough
returns-then-not-start_recovery-clause-enough c = λ none room. absurd (not_refused c.args.world.now _ (c.if-not-start_recovery.ensures.stopped refl) room)

pub returns-in-Finished-clause-enough : goal.returns-in-Finished-clause-enough
returns-in-Finished-clause-enough c = λ none room.
    let s = c.start_recovery.ensures.started c.if-not-start_recovery.false in
    (refl, comes_on c.args.world.now c.start_recovery.new.world c.recover.new.world s c.in-Finished.ensures.ends.0.stays c.in-Finished.ensures.ends.1 c.in-Finished.ensures.ends.2 c.left.ensures.apart (c.in-Finished.ensures.few (starts_fresh c.args.world.now c.start_recovery.new.world s)))

pub returns-in-Stopped-Limit-clause-enough : goal.returns-in-Stopped-Limit-clause-enough
returns-in-Stopped-Limit-clause-enough c = λ none room.
    let s = c.start_recovery.ensures.started c.if-not-start_recovery.false in
    let e = rw c.in-Stopped-Limit.field-0-is at c.in-Stopped-Limit.ensures.ends in
    absurd (not_stopped c.args.world.now c.start_recovery.new.world c.recover.new.world s e.0.stays (c.in-Stopped-Limit.ensures.few (starts_fresh c.args.world.now c.start_recovery.new.world s)) c.in-Stopped-Limit.which e.3 e.4 room)
