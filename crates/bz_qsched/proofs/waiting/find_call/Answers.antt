use Rattle.std.proofs.Common.{get_or}
use Rattle.bz_ring.specs.declared.calls.QCall.TheVariants.{Put}
use Rattle.bz_qsched.proofs.LookLemmas.{none_nowhere, none_further, found_at, read_is}
use Rattle.bz_qsched.proofs.waiting.find_call.Goals as goal

pub loop-at-init : goal.loop-at-init
loop-at-init c = none_nowhere c.args.w c.args.from c.args.calls.now

pub loop-at-preserved : goal.loop-at-preserved
loop-at-preserved c =
    none_further c.args.w c.args.from c.loop-at.at c.args.calls.now (get_or c.args.calls.now c.loop-at.at (0, Put 0)) c.loop-at.invariant c.loop-at-test.true (read_is c.args.calls.now c.loop-at.at (0, Put 0) c.loop-at-test.true) c.if-owner-w.false

pub returns-then-owner-w : goal.returns-then-owner-w
returns-then-owner-w c =
    found_at c.args.calls.now c.args.from c.loop-at.at c.args.w (get_or c.args.calls.now c.loop-at.at (0, Put 0)) c.loop-at.invariant c.loop-at.auto.at c.loop-at-test.true (read_is c.args.calls.now c.loop-at.at (0, Put 0) c.loop-at-test.true) c.if-owner-w.true
