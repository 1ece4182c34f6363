use Rattle.std.proofs.Common.{◌≡◌, sym, subst}
use Rattle.bz_world.specs.WorldView.{WorldView, power_in}
use Rattle.bz_world.proofs.world.World.power.Goals as goal

pub returns : goal.returns
returns c = subst (λ (l : WorldView). c.self.inside.parts.power ≡ power_in l) c.self.view_is (sym c.self.invariant.kept.tabled.power)
