use Rattle.std.proofs.Common.{inl, inr}
use Rattle.bz_queue.specs.declared.answers.QApplied.TheVariants as applied
use Rattle.bz_qsched.proofs.RecoveryLemmas.{on_made}
use Rattle.bz_qsched.proofs.power_on.turn_on.Goals as goal

pub returns-in-On-clause-on : goal.returns-in-On-clause-on
returns-in-On-clause-on c = λ is. elim (on_made c.args.world.now applied.On c.apply.new.self c.requires c.in-On.ensures) [
  | inl none ↦ absurd (let other = none.0 in cc)
  | inr made ↦ made.1
]

pub returns-in-Limit-clause-refused : goal.returns-in-Limit-clause-refused
returns-in-Limit-clause-refused c = λ is. elim (on_made c.args.world.now applied.Limit c.apply.new.self c.requires c.in-Limit.ensures) [
  | inl none ↦ none.1
  | inr made ↦ absurd (let other = made.0 in cc)
]

pub unreachable-requires : goal.unreachable-requires
unreachable-requires c = elim (on_made c.args.world.now c.apply.result c.apply.new.self c.requires c.apply.ensures) [
  | inl none ↦ c.in_default.not-Limit none.0
  | inr made ↦ c.in_default.not-On made.0
]
