use Rattle.std.proofs.Common.{ap, ◌∙◌, arith, rules, replicate}
use Rattle.bz_qsched.proofs.QueueLemmas.{kept_empty}
use Rattle.bz_qsched.proofs.waiting.Waiting.clear.Goals as goal

pub invariant_of-self : goal.invariant_of-self
invariant_of-self c = (
  kept_empty _ _ _ _ _ c.clear.ensures.items (c.fill.ensures.after (λ y h. search rules) ∙ ap (λ n. replicate n 0) c.self.told.0) (c.fill-2.ensures.after (λ y h. search rules) ∙ ap (λ n. replicate n 0) c.self.told.1)
      (omega (arith, c.clear.ensures.capacity, c.self.invariant.0.taken)),
  rw c.clear.ensures.items tt,
)
