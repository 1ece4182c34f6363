use Rattle.std.proofs.Common.{subst}
use Rattle.bz_world.specs.WorldView.{KeepsApart}
use Rattle.bz_world.proofs.ReachedNow.{keeps-apart}
use Rattle.bz_world.proofs.world.World.left.Goals as goal

pub returns-in-On-clause-apart : goal.returns-in-On-clause-apart
returns-in-On-clause-apart c = subst KeepsApart c.self.view_is (keeps-apart c.self.inside.parts c.self.invariant.kept c.in-On.is c.left.ensures.ordered)
