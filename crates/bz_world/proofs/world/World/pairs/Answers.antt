use Rattle.std.proofs.Common.{◌≡◌, subst}
use Rattle.bz_world.specs.WorldView.{WorldView, pairs_in}
use Rattle.bz_world.proofs.world.World.pairs.Goals as goal

pub returns : goal.returns
returns c = subst (λ (l : WorldView). c.self.inside.parts.pairs ≡ pairs_in l) c.self.view_is c.self.invariant.kept.tabled.pairs.size
