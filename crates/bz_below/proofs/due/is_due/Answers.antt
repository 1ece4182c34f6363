use Rattle.std.proofs.Common.{refl, arith}
use Rattle.bz_below.proofs.due.is_due.Goals as goal

pub returns-then-is_large-clause-due : goal.returns-then-is_large-clause-due
returns-then-is_large-clause-due c = (λ e. (omega (arith, c.if-path-lt2.false), (c.is_thawed_above.ensures.0 c.if-not-is_thawed_above.false, (c.if-is_large.ensures.0 refl, c.is_due.ensures.due.0 e))), λ h. c.is_due.ensures.due.1 h.1.1.1)

pub returns-then-is_large-clause-thawed : goal.returns-then-is_large-clause-thawed
returns-then-is_large-clause-thawed c e = c.is_thawed_above.ensures.0 c.if-not-is_thawed_above.false
