use Rattle.std.proofs.Common.{refl}
use Rattle.bz_below.proofs.split_below.SplitBelow.begin.Goals as goal

pub returns-in-Some-clause-begun : goal.returns-in-Some-clause-begun
returns-in-Some-clause-begun c = (refl, (c.in-Some.ensures.taken _, (c.new_parent-self.ensures.words, c.new_parent-self.ensures.size)))
