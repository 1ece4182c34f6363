use Rattle.std.proofs.Common.{◌∷◌, ◌++◌, [], ap, ◌∙◌}
use Rattle.bz_judge.proofs.Children.{stack-one}
use Rattle.bz_judge.proofs.visit.stack_with.Goals as goal

pub returns-in-Ok : goal.returns-in-Ok
returns-in-Ok c = stack-one _ c.args.visit (c.in-Ok.ensures.items ∙ ap (λ s. s ++ c.args.visit ∷ []) c.in_ok-stack.ensures.items)
