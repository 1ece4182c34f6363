use Rattle.std.proofs.Common.{Some, None, refl}
use Rattle.bz_sched.proofs.EnoughLemmas.{needed_for, ration_for, at_first, rationed_first, are_served, are_supplied}
use Rattle.bz_sched.proofs.RunLemmas.{unarmed_ends, unarmed_limit, unarmed_never}
use Rattle.bz_sched.proofs.running.run_unarmed.Goals as goal

pub returns-in-Finished-clause-ends : goal.returns-in-Finished-clause-ends
returns-in-Finished-clause-ends c = unarmed_ends c.args.plan.now c.args.world.now c.run_plan.new.world c.args.queue.now c.run_plan.new.queue c.run_plan.new.fuse c.in-Finished.ensures.ends

pub returns-in-Stopped-Limit-clause-ends : goal.returns-in-Stopped-Limit-clause-ends
returns-in-Stopped-Limit-clause-ends c =
    unarmed_limit c.args.plan.now c.args.world.now c.run_plan.new.world c.args.queue.now c.run_plan.new.queue c.run_plan.new.fuse c.in-Stopped-Limit.which (rw c.in-Stopped-Limit.field-0-is at c.in-Stopped-Limit.ensures.ends)

pub unreachable-requires : goal.unreachable-requires
unreachable-requires c = unarmed_never c.args.plan.now c.args.world.now c.run_plan.new.world c.args.queue.now c.run_plan.new.queue c.run_plan.new.fuse _ (rw c.in-Stopped-Due.field-0-is at c.in-Stopped-Due.ensures.ends)

pub returns-in-Finished-clause-enough : goal.returns-in-Finished-clause-enough
returns-in-Finished-clause-enough c = λ none alone closed enough.
    let ends = c.in-Finished.ensures.enough alone (needed_for None c.args.world.now c.args.queue.now.calls) (at_first None c.args.world.now c.args.queue.now.calls closed enough tt tt) in (
      refl,
      are_served None c.args.world.now c.run_plan.new.world c.args.queue.now c.run_plan.new.queue c.run_plan.new.fuse ends.1,
      λ supply.
          let supplied = c.in-Finished.ensures.enough alone (needed_for (Some (ration_for c.args.world.now c.args.queue.now.calls)) c.args.world.now c.args.queue.now.calls) (rationed_first c.args.world.now c.args.queue.now.calls closed enough supply) in
          are_supplied c.args.world.now c.run_plan.new.world c.args.queue.now c.run_plan.new.queue c.run_plan.new.fuse supplied.1,
    )

pub returns-in-Stopped-Limit-clause-enough : goal.returns-in-Stopped-Limit-clause-enough
returns-in-Stopped-Limit-clause-enough c = λ none alone closed enough.
    let ends = c.in-Stopped-Limit.ensures.enough alone (needed_for None c.args.world.now c.args.queue.now.calls) (at_first None c.args.world.now c.args.queue.now.calls closed enough tt tt) in
    let never = ends.0 in absurd (cc never)
