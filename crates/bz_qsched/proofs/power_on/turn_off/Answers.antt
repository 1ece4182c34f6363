use Rattle.std.proofs.Common.{inl, inr, refl}
use Rattle.bz_queue.specs.declared.answers.QApplied.TheVariants as applied
use Rattle.bz_qsched.proofs.RecoveryLemmas.{turns_off, neither_is_limit}
use Rattle.bz_qsched.proofs.power_on.turn_off.Goals as goal

pub returns-in-Cut-clause-off : goal.returns-in-Cut-clause-off
returns-in-Cut-clause-off c = λ is. elim (turns_off c.args.world.now c.apply.result c.apply.new.self c.requires c.apply.ensures) [
  | inl none ↦ absurd (neither_is_limit c.apply.result c.in-Cut.is none.0)
  | inr (inl made) ↦ made.1
  | inr (inr made) ↦ made.1
]

pub returns-in-Limit-clause-refused : goal.returns-in-Limit-clause-refused
returns-in-Limit-clause-refused c = λ is. elim (turns_off c.args.world.now applied.Limit c.apply.new.self c.requires c.in-Limit.ensures) [
  | inl none ↦ none.1
  | inr (inl made) ↦ absurd (let other = made.0 in cc)
  | inr (inr made) ↦ absurd (let other = made.0 in cc)
]

pub unreachable-requires : goal.unreachable-requires
unreachable-requires c = elim (turns_off c.args.world.now c.apply.result c.apply.new.self c.requires c.apply.ensures) [
  | inl none ↦ c.in_default.not-Limit none.0
  | inr (inl made) ↦ c.in_default.not-Cut made.0
  | inr (inr made) ↦ c.in_default.not-Off made.0
]
