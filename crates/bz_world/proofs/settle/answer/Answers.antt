use Rattle.std.proofs.Common.{subst, inl, inr}
use Rattle.bz_solo.specs.Errands.{IsLookOf}
use Rattle.bz_any_task.specs.Kinds as kinds
use Rattle.bz_world.proofs.TakingOn.{call-is}
use Rattle.bz_world.proofs.settle.answer.Goals as goal

-- a page does not look its key up
pub unreachable-requires : goal.unreachable-requires
unreachable-requires c = elim (subst (λ z. IsLookOf z kinds.Find) (call-is c.args.parts.now c.args.w c.requires.view.on c.index.result.now _ c.index.ensures c.in-Page.ensures) c.requires.view.look) [
  | inl e ↦ cc e
  | inr e ↦ cc e
]
