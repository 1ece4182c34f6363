use Rattle.std.proofs.Common.{refl}
use Rattle.bz_qsched.proofs.ItemLemmas.{queue_done, arm_done, run_done}
use Rattle.bz_qsched.proofs.items.do_item.Goals as goal

pub returns-in-Queue : goal.returns-in-Queue
returns-in-Queue c = rw c.in-Queue.is (queue_done c.args.world.now c.args.queue.now c.push.new.self c.args.armed.now c.in-Queue.w c.in-Queue.call c.requires.steady c.requires.armed c.push.ensures.calls c.push.ensures.room)

pub returns-in-Arm : goal.returns-in-Arm
returns-in-Arm c = rw c.in-Arm.is (arm_done c.args.world.now c.args.queue.now c.args.armed.now c.in-Arm.cut c.requires.steady (rw c.in-Arm.is at c.requires.item).0.0)

pub returns-in-Run : goal.returns-in-Run
returns-in-Run c = rw (c.in-Run.is, c.end_of.ensures) (run_done c.args.world.now c.run-end.new.world c.args.queue.now c.run-end.new.queue c.args.armed.now c.in-Run.plan c.run-end.result c.run-end.ensures)

pub returns-in-Power : goal.returns-in-Power
returns-in-Power c = rw c.in-Power.is c.turn_on-end.ensures
