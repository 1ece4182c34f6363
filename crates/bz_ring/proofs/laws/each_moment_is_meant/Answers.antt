use Rattle.bz_ring.proofs.EachMoment.{each_moment_is_meant}
use Rattle.bz_ring.proofs.laws.each_moment_is_meant.Goals as goal

pub returns : goal.returns
returns c = each_moment_is_meant
