use Rattle.std.proofs.Common.{refl, inl, inr}
use Rattle.bz_top.proofs.dump.dump.Goals as goal

pub returns-in-Ok-clause-wrote : goal.returns-in-Ok-clause-wrote
returns-in-Ok-clause-wrote g c = inl (inl (refl, c.in-Ok.ensures.all))

pub returns-in-Err-clause-wrote : goal.returns-in-Err-clause-wrote
returns-in-Err-clause-wrote g c = inl (inr (refl, c.in-Err.ensures.cause.failed, c.in-Err.ensures.front))
