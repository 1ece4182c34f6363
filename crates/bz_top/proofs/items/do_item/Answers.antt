use Rattle.std.proofs.Common.{subst, ◌∷◌, ◌∙◌, refl}
use Rattle.bz_script.specs.declared.item.Item.{Item}
use Rattle.bz_sched.specs.Sums.{Affords}
use Rattle.bz_top.proofs.ItemLemmas.{queue_done, arm_done, power_done}
use Rattle.bz_top.proofs.SumLemmas.{affords_queued, affords_armed, run_affords, power_affords}
use Rattle.bz_top.proofs.ThreadLemmas.{not_true}
use Rattle.bz_top.proofs.items.do_item.Goals as goal

pub returns-in-Queue-clause-ends : goal.returns-in-Queue-clause-ends
returns-in-Queue-clause-ends c = rw c.in-Queue.is (queue_done c.args.world c.args.queue.now c.push.new.self c.args.armed.now c.in-Queue.w c.in-Queue.call c.requires.steady c.requires.armed c.push.ensures.calls c.push.ensures.room)

pub returns-in-Arm-clause-ends : goal.returns-in-Arm-clause-ends
returns-in-Arm-clause-ends c = rw c.in-Arm.is (arm_done c.args.world c.args.queue.now c.args.armed.now c.in-Arm.flush c.in-Arm.seed c.requires.steady (rw c.in-Arm.is at c.requires.item).0)

pub run_turns-done-requires-clause-item : goal.run_turns-done-requires-clause-item
run_turns-done-requires-clause-item c = rw c.in-Run.is at c.requires.item

pub run_turns-done-requires-clause-plan : goal.run_turns-done-requires-clause-plan
run_turns-done-requires-clause-plan c = not_true _ (rw c.in-Run.is at c.requires.runs)

pub returns-in-Run-clause-ends : goal.returns-in-Run-clause-ends
returns-in-Run-clause-ends c = rw c.in-Run.is c.run_turns-done.ensures.ends

pub returns-in-Power-clause-ends : goal.returns-in-Power-clause-ends
returns-in-Power-clause-ends c = rw (c.in-Power.is, c.end_of.ensures) (power_done c.args.world c.power-end.new.world c.args.queue.now c.drop_after.new.queue c.drop_after.ensures.room c.args.armed.now c.power-end.result c.drop_after.ensures.calls c.power-end.ensures.ends)

pub returns-in-Queue-clause-enough : goal.returns-in-Queue-clause-enough
returns-in-Queue-clause-enough c = λ supplied rest affords.
    (refl, affords_queued supplied c.args.world c.args.queue.now c.push.new.self c.args.armed.now c.in-Queue.w c.in-Queue.call rest c.push.ensures.calls (subst (λ (item : Item). Affords supplied c.args.world c.args.queue.now.calls c.args.armed.now (item ∷ rest)) c.in-Queue.is affords))

pub returns-in-Arm-clause-enough : goal.returns-in-Arm-clause-enough
returns-in-Arm-clause-enough c = λ supplied rest affords.
    (refl, affords_armed supplied c.args.world c.args.queue.now.calls c.args.armed.now c.in-Arm.flush c.in-Arm.seed rest (subst (λ (item : Item). Affords supplied c.args.world c.args.queue.now.calls c.args.armed.now (item ∷ rest)) c.in-Arm.is affords))

pub returns-in-Run-clause-enough : goal.returns-in-Run-clause-enough
returns-in-Run-clause-enough c = λ supplied rest affords.
    run_affords supplied c.args.world c.run_turns-done.result.0 c.args.queue.now c.run_turns-done.new.queue c.args.armed.now c.in-Run.plan rest c.run_turns-done.result.1 (rw c.in-Run.is at c.requires.item).1
    (subst (λ (item : Item). Affords supplied c.args.world c.args.queue.now.calls c.args.armed.now (item ∷ rest)) c.in-Run.is affords) c.run_turns-done.ensures.ends c.run_turns-done.ensures.enough

pub returns-in-Power-clause-enough : goal.returns-in-Power-clause-enough
returns-in-Power-clause-enough c = λ supplied rest affords.
    let done = power_affords supplied c.args.world c.power-end.new.world c.args.queue.now.calls c.drop_after.new.queue.calls c.args.armed.now rest c.power-end.result
    (subst (λ (item : Item). Affords supplied c.args.world c.args.queue.now.calls c.args.armed.now (item ∷ rest)) c.in-Power.is affords) c.power-end.ensures.ends c.power-end.ensures.enough c.drop_after.ensures.calls in
    (c.end_of.ensures ∙ done.0, done.1)
