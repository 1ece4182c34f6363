use Rattle.std.proofs.Common.{◌++◌, ◌∷◌, [], ap, ◌∙◌, None}
use Rattle.std.proofs.lemmas.List.{replicate_more}
use Rattle.bz_queue.proofs.open.none_table.Goals as goal

pub loop-preserved : goal.loop-preserved
loop-preserved c = c.in_ok-push.ensures.items ∙ (ap (λ items. items ++ None ∷ []) c.loop.invariant ∙ replicate_more c.loop.counter None)
