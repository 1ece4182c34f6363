use Rattle.bz_threads.proofs.Taking.{taking_more, others_stay, fewer_left}
use Rattle.bz_threads.proofs.batches.take_calls.Goals as goal

pub loop-call-smaller : goal.loop-call-smaller
loop-call-smaller c = fewer_left c.args.worker c.loop-call.queue c.take.new.self c.in-Some.call c.in-Some.ensures.calls c.in-Some.ensures.first

pub loop-call-preserved : goal.loop-call-preserved
loop-call-preserved c =
    let e = c.in-Some.ensures in
    rw c.in_ok-push.ensures.items (taking_more c.args.worker c.args.queue.now c.loop-call.queue c.take.new.self c.loop-call.calls.items c.loop-call.invariant e.calls e.room c.in-Some.call e.first)

pub returns-in_err-push-clause-others : goal.returns-in_err-push-clause-others
returns-in_err-push-clause-others c = let e = c.in-Some.ensures in others_stay c.args.worker c.args.queue.now c.loop-call.queue c.take.new.self c.loop-call.calls.items c.loop-call.invariant e.calls e.room

pub returns-clause-others : goal.returns-clause-others
returns-clause-others c = let e = c.in_default.ensures in others_stay c.args.worker c.args.queue.now c.loop-call.queue c.take.new.self c.loop-call.calls.items c.loop-call.invariant e.calls e.room
