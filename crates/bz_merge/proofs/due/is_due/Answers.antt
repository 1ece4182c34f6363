use Rattle.std.proofs.Common.{refl, arith}
use Rattle.bz_merge.proofs.due.is_due.Goals as goal

pub returns-then-is_small-clause-due : goal.returns-then-is_small-clause-due
returns-then-is_small-clause-due c = (λ e. (omega (arith, c.if-path-lt2.false), (c.is_thawed_above.ensures.0 c.if-not-is_thawed_above.false, (c.if-is_small.ensures.0 refl, c.leads_to.ensures.0 e))), λ h. c.leads_to.ensures.1 h.1.1.1)

pub returns-then-is_small-clause-leads : goal.returns-then-is_small-clause-leads
returns-then-is_small-clause-leads c e link is = let d = c.leads_to.ensures.0 e link is in (d.leads, d.guard.is)

pub returns-then-is_small-clause-thawed : goal.returns-then-is_small-clause-thawed
returns-then-is_small-clause-thawed c e = c.is_thawed_above.ensures.0 c.if-not-is_thawed_above.false
