use Rattle.bz_judge.specs.Inside.Stacks.{visit_of}
use Rattle.bz_judge.proofs.Descending.{IsDescending}
use Rattle.bz_judge.proofs.descent.leaf_visit.Given as goal

abbrev pub invariant-loop-visit : goal.invariant-loop-visit
invariant-loop-visit l = IsDescending l.config l.image l.key (visit_of l.visit)

abbrev pub decreases-loop-visit : goal.decreases-loop-visit
decreases-loop-visit l = l.visit.place.level
