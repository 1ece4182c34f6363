use Rattle.std.proofs.Common.{ap, inl, inr}
use Rattle.bz_task.specs.Basis.{Basis}
use Rattle.bz_any_task.specs.MadeFor.{IsMadeFor}
use Rattle.bz_any_task.proofs.Made.{lacked-viewed}
use Rattle.bz_any_task.proofs.running.AnyTask.freeze.Goals as goal

pub returns-clause-made_for : goal.returns-clause-made_for
unfolding IsMadeFor
returns-clause-made_for c key words p is lacks = elim lacks [
  | inl frozen ↦ absurd (let no = c.requires.thawed in cc)
  | inr few ↦ lacked-viewed key c.args.view c.new.result.slot words p is (ap (λ (b : Basis). b.slot) c.new.ensures.basis) few
]
