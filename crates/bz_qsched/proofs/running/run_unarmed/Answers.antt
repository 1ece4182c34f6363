use Rattle.std.proofs.Common.{Some, None, refl}
use Rattle.bz_qsched.proofs.RunLemmas.{unarmed_ends, unarmed_limit, unarmed_never}
use Rattle.bz_qsched.proofs.running.run_unarmed.Goals as goal

pub returns-in-Finished : goal.returns-in-Finished
returns-in-Finished c = unarmed_ends c.args.plan.now c.args.world.now c.run_plan.new.world c.args.queue.now c.run_plan.new.queue c.run_plan.new.fuse c.in-Finished.ensures

pub returns-in-Stopped-Limit : goal.returns-in-Stopped-Limit
returns-in-Stopped-Limit c =
    unarmed_limit c.args.plan.now c.args.world.now c.run_plan.new.world c.args.queue.now c.run_plan.new.queue c.run_plan.new.fuse c.in-Stopped-Limit.which (rw c.in-Stopped-Limit.field-0-is at c.in-Stopped-Limit.ensures)

pub unreachable-requires : goal.unreachable-requires
unreachable-requires c = unarmed_never c.args.plan.now c.args.world.now c.run_plan.new.world c.args.queue.now c.run_plan.new.queue c.run_plan.new.fuse _ (rw c.in-Stopped-Due.field-0-is at c.in-Stopped-Due.ensures)
