use Rattle.bz_judge.proofs.descent.end_of_leaf.Goals as goal

pub returns : goal.returns
returns c = c.leaf_visit-visit.ensures.high
