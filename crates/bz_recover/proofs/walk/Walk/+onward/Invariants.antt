use Rattle.std.proofs.Common.{◌-◌}
use Rattle.bz_recover.proofs.walk.Walk.+onward.Given as goal

abbrev pub decreases-onward : goal.decreases-onward
decreases-onward l = l.self.now.top - l.level
