use Rattle.std.proofs.Common.{arith}
use Rattle.bz_check.proofs.Following.{false_true}
use Rattle.bz_verdict.proofs.Pairing.{same_decides, other_counts}
use Rattle.bz_verdict.proofs.maps.is_same.Goals as goal

pub returns-then-len : goal.returns-then-len
returns-then-len c = (
  λ h. absurd (false_true h),
  λ same. absurd (other_counts c.args.one.now.entries c.args.other.now.entries c.len.ensures.ordered c.len-2.ensures.ordered (λ e. omega (arith, e, c.if-len.true, c.len.ensures.len, c.len-2.ensures.len)) same),
)

pub returns : goal.returns
returns c = same_decides c.args.one.now.entries c.args.other.now.entries c.eq.result c.len.ensures.ordered c.len-2.ensures.ordered c.eq.ensures
