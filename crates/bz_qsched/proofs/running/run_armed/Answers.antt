use Rattle.bz_qsched.proofs.RecoveryLemmas.{on_is_not_off}
use Rattle.bz_qsched.proofs.RunLemmas.{armed_ends, armed_limit, armed_due, armed_cut}
use Rattle.bz_qsched.proofs.running.run_armed.Goals as goal

pub returns-in-Finished : goal.returns-in-Finished
returns-in-Finished c = armed_ends c.args.cut c.args.plan.now c.args.world.now c.run_plan.new.world c.args.queue.now c.run_plan.new.queue c.run_plan.new.fuse c.requires.cut c.in-Finished.ensures

pub returns-in-Stopped-Limit : goal.returns-in-Stopped-Limit
returns-in-Stopped-Limit c =
    armed_limit c.args.cut c.args.plan.now c.args.world.now c.run_plan.new.world c.args.queue.now c.run_plan.new.queue c.run_plan.new.fuse c.requires.cut c.in-Stopped-Limit.which (rw c.in-Stopped-Limit.field-0-is at c.in-Stopped-Limit.ensures)

pub returns-in-Stopped-Due : goal.returns-in-Stopped-Due
returns-in-Stopped-Due c =
    let e = rw c.in-Stopped-Due.field-0-is at c.in-Stopped-Due.ensures in
    let due = armed_due c.args.cut c.args.plan.now c.args.world.now c.run_plan.new.world c.args.queue.now c.run_plan.new.queue c.run_plan.new.fuse c.requires.cut _ e in
    armed_cut c.args.cut c.args.plan.now c.args.world.now c.run_plan.new.world c.args.queue.now c.run_plan.new.queue c.run_plan.new.fuse c.requires.cut _ c.cut_run.result c.cut_run.new.world c.cut_run.new.queue c.in-Stopped-Due.ensures.0 due c.cut_run.ensures

pub cut_run-requires : goal.cut_run-requires
cut_run-requires c = record { powered = on_is_not_off c.run_plan.new.world c.in-Stopped-Due.ensures.0.ready.powered; words = rw c.in-Stopped-Due.ensures.0.numbers c.requires.words }
