use Rattle.std.proofs.Common.{◌++◌, ap, ◌∙◌}
use Rattle.bz_node.specs.Reading.{pairs_in}
use Rattle.bz_judge.proofs.InOrder.{put-in-order}
use Rattle.bz_judge.proofs.gathering.Gathering.take_leaf.Goals as goal

pub returns-in-Ok-clause-pairs : goal.returns-in-Ok-clause-pairs
returns-in-Ok-clause-pairs c =
    c.in-Ok.ensures.items ∙ ap (λ xs. c.args.self.now.pairs.items ++ xs) (c.pairs.ensures.same ∙ put-in-order (pairs_in c.args.node.now.0) _ c.records.ensures.same c.records.ensures.rising)
