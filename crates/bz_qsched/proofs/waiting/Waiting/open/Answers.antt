use Rattle.std.proofs.Common.{refl, arith}
use Rattle.bz_qsched.proofs.QueueLemmas.{kept_empty}
use Rattle.bz_qsched.proofs.waiting.Waiting.open.Goals as goal

pub invariant_of-result : goal.invariant_of-result
invariant_of-result c = (kept_empty _ _ _ _ _ c.in_ok-with_capacity.ensures.items refl refl (omega (arith, c.in_ok-with_capacity.ensures.exact)), rw c.in_ok-with_capacity.ensures.items tt)
