use Rattle.std.proofs.Common.{◌≡◌, rules}
use Rattle.bz_mark.specs.declared.power.Power.TheVariants as power
use Rattle.bz_world.specs.WorldView.{power_in}
use Rattle.bz_sched.proofs.FewLemmas.{few_none, few_more, few_stops, few_done}
use Rattle.bz_sched.proofs.RecoveryLemmas.{waking_none, waking_more, waking_stops, waking_done}
use Rattle.bz_sched.proofs.power_on.recover.Goals as goal

pub loop-world-init : goal.loop-world-init
loop-world-init c = (waking_none c.args.world.now c.args.fuse.now c.requires, λ fresh. few_none c.args.world.now c.requires fresh)

pub loop-world-preserved : goal.loop-world-preserved
loop-world-preserved c =
    let recovering : power_in c.loop-world.world ≡ power.Recovering = search (rules, c.loop-world-test.ensures) in (
      waking_more c.args.world.now c.loop-world.world c.recover_once.new.world c.args.fuse.now c.loop-world.fuse c.recover_once.new.fuse c.loop-world.invariant.0 recovering c.in-Finished.ensures.ends,
      λ fresh. few_more c.args.world.now c.loop-world.world c.recover_once.new.world c.loop-world.fuse c.recover_once.new.fuse c.loop-world.invariant.0.on.stays.config (c.loop-world.invariant.1 fresh) recovering (c.journal.ensures.bounded recovering) c.in-Finished.ensures.ends,
    )

pub returns-in-Stopped-clause-ends : goal.returns-in-Stopped-clause-ends
returns-in-Stopped-clause-ends c = waking_stops c.args.world.now c.loop-world.world c.recover_once.new.world c.args.fuse.now c.loop-world.fuse c.recover_once.new.fuse c.in-Stopped.why c.loop-world.invariant.0 (search (rules, c.loop-world-test.ensures)) c.in-Stopped.ensures.ends

pub returns-in-Stopped-clause-few : goal.returns-in-Stopped-clause-few
returns-in-Stopped-clause-few c = λ fresh.
    let recovering : power_in c.loop-world.world ≡ power.Recovering = search (rules, c.loop-world-test.ensures) in
    few_stops c.args.world.now c.loop-world.world c.recover_once.new.world c.loop-world.invariant.0.on.stays.config (c.loop-world.invariant.1 fresh) recovering (c.journal.ensures.bounded recovering) c.in-Stopped.ensures.ends.same

pub returns-clause-ends : goal.returns-clause-ends
returns-clause-ends c = waking_done c.args.world.now c.loop-world.world c.args.fuse.now c.loop-world.fuse c.loop-world.invariant.0 (λ is. search (rules, c.loop-world-test.ensures, is))

pub returns-clause-few : goal.returns-clause-few
returns-clause-few c = λ fresh. few_done c.args.world.now c.loop-world.world (c.loop-world.invariant.1 fresh) (λ is. search (rules, c.loop-world-test.ensures, is))
