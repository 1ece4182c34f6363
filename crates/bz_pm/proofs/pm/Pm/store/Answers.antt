use Rattle.std.proofs.lemmas.List.{length-set}
use Rattle.bz_pm.proofs.States.{state-cached}
use Rattle.bz_pm.proofs.pm.Pm.store.Goals as goal

pub invariant_of-self : goal.invariant_of-self
invariant_of-self c = state-cached _ _ c.self.invariant (length-set _ c.args.a c.args.v)
