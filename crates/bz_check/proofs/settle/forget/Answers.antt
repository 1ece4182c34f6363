use Rattle.std.proofs.Common.{arith}
use Rattle.bz_check.proofs.Tests.{forget_more}
use Rattle.bz_check.proofs.settle.forget.Goals as goal

pub loop-w-preserved : goal.loop-w-preserved
loop-w-preserved c = rw (c.loop-w.invariant, c.clear.ensures) (forget_more _ c.loop-w.w (omega arith))
