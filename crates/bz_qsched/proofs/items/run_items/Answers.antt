use Rattle.std.proofs.Common.{ap, ◌∙◌, arith}
use Rattle.bz_queue.specs.declared.open.Numbers.{Numbers}
use Rattle.bz_qsched.proofs.FollowLemmas.{staged_none, staged_ready, staged_more, staged_met, staged_done}
use Rattle.bz_qsched.proofs.ItemLemmas.{on_steady}
use Rattle.bz_qsched.proofs.items.run_items.Goals as goal

pub loop-item-init : goal.loop-item-init
loop-item-init c = staged_none c.args.items.now c.args.world.now c.args.queue.now (on_steady c.args.world.now c.requires.powered) c.requires.powered c.requires.room c.requires.order

pub do_item-requires-clause-workers : goal.do_item-requires-clause-workers
do_item-requires-clause-workers c = ap (λ (numbers : Numbers). numbers.workers) c.loop-item.invariant.on.numbers ∙ c.requires.workers

pub do_item-requires-clause-room : goal.do_item-requires-clause-room
do_item-requires-clause-room c = omega (arith, c.loop-item.invariant.room, c.loop-item-test.true)

pub do_item-requires-clause-words : goal.do_item-requires-clause-words
do_item-requires-clause-words c = rw c.loop-item.invariant.on.numbers c.requires.words

pub do_item-requires-clause-item : goal.do_item-requires-clause-item
do_item-requires-clause-item c = staged_ready c.args.items.now c.loop-item.item-index _ c.loop-item.armed _ c.args.world.now c.loop-item.world c.loop-item.queue c.loop-item.invariant c.requires.items c.loop-item-test.true c.item-item.is

pub returns-in-Limit : goal.returns-in-Limit
returns-in-Limit c =
    staged_met c.args.items.now c.loop-item.item-index _ c.loop-item.armed _ c.args.world.now c.loop-item.world c.loop-item.queue c.loop-item.invariant c.loop-item-test.true c.item-item.is c.in-Limit.which c.do_item.new.world c.in-Limit.ensures

pub loop-item-preserved : goal.loop-item-preserved
loop-item-preserved c =
    staged_more c.args.items.now c.loop-item.item-index _ c.loop-item.armed _ c.args.world.now c.loop-item.world c.loop-item.queue c.loop-item.invariant c.loop-item-test.true c.item-item.is _ _ _ c.in-Finished.ensures

pub returns : goal.returns
returns c = staged_done c.args.items.now c.loop-item.item-index c.loop-item.armed _ c.args.world.now c.loop-item.world c.loop-item.queue c.loop-item.invariant (omega (arith, c.loop-item-test.false))
