use Rattle.std.proofs.Common.{arith}
use Rattle.bz_verdict.proofs.Starting.{inner_more, all_inner}
use Rattle.bz_verdict.proofs.judge.first_outer.Goals as goal

pub loop-i-preserved : goal.loop-i-preserved
loop-i-preserved c = inner_more c.args.journal.now.past c.loop-i.i c.loop-i.invariant (c.is_inner.ensures.0 c.if-not-is_inner.false)

pub returns : goal.returns
returns c = all_inner c.args.journal.now.past c.length-count.result c.loop-i.i c.length-count.ensures (omega (arith, c.loop-i-test.false)) c.loop-i.invariant
