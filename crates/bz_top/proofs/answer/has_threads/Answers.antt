use Rattle.std.proofs.Common.{refl, sym, arith}
use Rattle.bz_top.proofs.ThreadLemmas.{skipped, found, none_found}
use Rattle.bz_top.proofs.answer.has_threads.Goals as goal

pub loop-item-init : goal.loop-item-init
loop-item-init c = refl

pub returns-then-needs_threads : goal.returns-then-needs_threads
returns-then-needs_threads c = sym (found c.args.items.now c.loop-item.item-index _ c.loop-item-test.true c.item-item.is (sym c.if-needs_threads.ensures) c.loop-item.invariant)

pub loop-item-preserved : goal.loop-item-preserved
loop-item-preserved c = skipped c.args.items.now c.loop-item.item-index _ c.loop-item-test.true c.item-item.is (sym c.if-needs_threads.ensures) c.loop-item.invariant

pub returns : goal.returns
returns c = sym (none_found c.args.items.now c.loop-item.item-index (omega (arith, c.loop-item-test.false)) c.loop-item.invariant)
