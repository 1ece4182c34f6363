use Rattle.std.proofs.Common.{◌+◌, drop, refl, sym, ap, ◌∙◌, arith}
use Rattle.bz_layout.specs.declared.config.Config.{Config}
use Rattle.bz_top.proofs.FollowLemmas.{staged_none, staged_ready, staged_more, staged_met, staged_wants, staged_done}
use Rattle.bz_top.proofs.SumLemmas.{affords_here, wants_nothing}
use Rattle.bz_top.proofs.threads.do_items.Goals as goal

pub loop-item-init : goal.loop-item-init
loop-item-init g c = (staged_none c.args.items.now c.args.world c.args.queue.now c.requires.steady c.requires.powered c.requires.room c.requires.order, λ supplied affords. affords)

pub do_item-next-requires-clause-workers : goal.do_item-next-requires-clause-workers
do_item-next-requires-clause-workers g c = λ lives outlive. ap (λ (config : Config). config.workers) c.loop-item.invariant.0.on.config ∙ c.requires.workers

pub do_item-next-requires-clause-room : goal.do_item-next-requires-clause-room
do_item-next-requires-clause-room g c = λ lives outlive. omega (arith, c.loop-item.invariant.0.room, c.loop-item-test.true)

pub do_item-next-requires-clause-item : goal.do_item-next-requires-clause-item
do_item-next-requires-clause-item g c = λ lives outlive. staged_ready c.args.items.now c.loop-item.item-index _ c.loop-item.armed _ c.args.world c.loop-item.world c.loop-item.queue c.loop-item.invariant.0 c.requires.items c.loop-item-test.true c.item-item.is

pub returns-in-Limit-clause-ends : goal.returns-in-Limit-clause-ends
returns-in-Limit-clause-ends g c =
    staged_met c.args.items.now c.loop-item.item-index _ c.loop-item.armed _ c.args.world c.loop-item.world c.loop-item.queue c.loop-item.invariant.0 c.loop-item-test.true c.item-item.is c.in-Limit.which c.do_item-next.result.0 (rw c.in-Limit.is at c.do_item-next.ensures.ends)

pub returns-in-Memory-clause-ends : goal.returns-in-Memory-clause-ends
returns-in-Memory-clause-ends g c =
    staged_wants c.args.items.now c.loop-item.item-index _ c.loop-item.armed _ c.args.world c.loop-item.world c.loop-item.queue c.loop-item.invariant.0 c.loop-item-test.true c.item-item.is c.do_item-next.result.0 (rw c.in-Memory.is at c.do_item-next.ensures.ends)

pub loop-item-preserved : goal.loop-item-preserved
loop-item-preserved g c = (
  staged_more c.args.items.now c.loop-item.item-index _ c.loop-item.armed _ c.args.world c.loop-item.world c.loop-item.queue c.loop-item.invariant.0 c.loop-item-test.true c.item-item.is _ _ _ (rw c.in-Finished.is at c.do_item-next.ensures.ends),
  λ supplied affords. (c.do_item-next.ensures.enough supplied (drop (c.loop-item.item-index + 1) c.args.items.now) (affords_here supplied c.args.items.now c.loop-item.item-index _ c.loop-item.armed c.loop-item.world c.loop-item.queue.calls c.loop-item-test.true c.item-item.is (c.loop-item.invariant.1 supplied affords))).1,
)

pub returns-clause-ends : goal.returns-clause-ends
returns-clause-ends g c = staged_done c.args.items.now c.loop-item.item-index c.loop-item.armed _ c.args.world c.loop-item.world c.loop-item.queue c.loop-item.invariant.0 (omega (arith, c.loop-item-test.false))

pub returns-in-Limit-clause-enough : goal.returns-in-Limit-clause-enough
returns-in-Limit-clause-enough g c = λ supplied affords.
    let done = (c.do_item-next.ensures.enough supplied (drop (c.loop-item.item-index + 1) c.args.items.now) (affords_here supplied c.args.items.now c.loop-item.item-index _ c.loop-item.armed c.loop-item.world c.loop-item.queue.calls c.loop-item-test.true c.item-item.is (c.loop-item.invariant.1 supplied affords))).0 in
    let never = sym done ∙ c.in-Limit.is in absurd (cc never)

pub returns-in-Memory-clause-enough : goal.returns-in-Memory-clause-enough
returns-in-Memory-clause-enough g c = λ supplied affords.
    let done = (c.do_item-next.ensures.enough supplied (drop (c.loop-item.item-index + 1) c.args.items.now) (affords_here supplied c.args.items.now c.loop-item.item-index _ c.loop-item.armed c.loop-item.world c.loop-item.queue.calls c.loop-item-test.true c.item-item.is (c.loop-item.invariant.1 supplied affords))).0 in
    let never = sym done ∙ c.in-Memory.is in absurd (cc never)

pub returns-clause-enough : goal.returns-clause-enough
returns-clause-enough g c = λ supplied affords. (refl, wants_nothing supplied c.loop-item.world c.loop-item.queue.calls c.loop-item.armed _ (c.loop-item.invariant.1 supplied affords))
