use Rattle.std.proofs.Common.{refl}
use Rattle.bz_split.proofs.due.is_due.Goals as goal

pub returns-then-is_large-clause-due : goal.returns-then-is_large-clause-due
returns-then-is_large-clause-due c = (λ e. (c.if-path-ne1.false, (c.if-is_large.ensures.0 refl, c.is_due.ensures.due.0 e)), λ h. c.is_due.ensures.due.1 h.1.1)
