use Rattle.std.proofs.Common.{inl, inr}
use Rattle.bz_queue.specs.declared.answers.QApplied.TheVariants as applied
use Rattle.bz_qsched.proofs.EvictionLemmas.{evicted}
use Rattle.bz_qsched.proofs.cut.evict_word.Goals as goal

pub returns-in-Evicted-clause-evicted : goal.returns-in-Evicted-clause-evicted
returns-in-Evicted-clause-evicted c = λ is. elim (evicted c.args.world.now c.args.a applied.Evicted c.apply.new.self c.requires.in_range c.requires.powered c.in-Evicted.ensures) [
  | inl none ↦ absurd (let other = none.0 in cc)
  | inr made ↦ made.1
]

pub returns-in-Limit-clause-refused : goal.returns-in-Limit-clause-refused
returns-in-Limit-clause-refused c = λ is. elim (evicted c.args.world.now c.args.a applied.Limit c.apply.new.self c.requires.in_range c.requires.powered c.in-Limit.ensures) [
  | inl none ↦ none.1
  | inr made ↦ absurd (let other = made.0 in cc)
]

pub unreachable-requires : goal.unreachable-requires
unreachable-requires c = elim (evicted c.args.world.now c.args.a c.apply.result c.apply.new.self c.requires.in_range c.requires.powered c.apply.ensures) [
  | inl none ↦ c.in_default.not-Limit none.0
  | inr made ↦ c.in_default.not-Evicted made.0
]
