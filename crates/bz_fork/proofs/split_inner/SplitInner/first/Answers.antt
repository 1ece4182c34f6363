use Rattle.std.proofs.Common.{refl}
use Rattle.bz_fork.proofs.split_inner.SplitInner.first.Goals as goal

pub returns-then-takes_no_child : goal.returns-then-takes_no_child
returns-then-takes_no_child c = c.takes_no_child.ensures.0 c.if-takes_no_child.true

pub returns-else-takes_no_child : goal.returns-else-takes_no_child
returns-else-takes_no_child c = (refl, λ h. let no = c.takes_no_child.ensures.1 h in let is = c.if-takes_no_child.false in absurd (cc (no, is)))
