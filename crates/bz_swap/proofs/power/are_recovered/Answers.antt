use Rattle.std.proofs.Common.{arith, refl, inl, inr}
use Rattle.std.proofs.lemmas.Bool.{cases_eq}
use Rattle.bz_swap.proofs.Recovered.{all-recovered}
use Rattle.bz_swap.proofs.power.are_recovered.Goals as goal

pub loop-a-preserved : goal.loop-a-preserved
loop-a-preserved c = λ b below. elim (cases_eq b c.loop-a.a) [
  | inl e ↦ rw e ((rw c.if-not-is_recovered.false at c.is_recovered.ensures).0 refl)
  | inr ne ↦ c.loop-a.invariant b (omega (arith, below, ne))
]

pub returns : goal.returns
returns c = (λ yes. all-recovered c.args.swaps c.args.words.now c.requires.room (λ a within. c.loop-a.invariant a (omega (arith, within, c.loop-a-test.false))), λ h. refl)
