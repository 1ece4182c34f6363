use Rattle.std.proofs.Common.{◌≡◌, false, subst}
use Rattle.bz_sound.specs.Power.Calls.{MayAct}
use Rattle.bz_world.specs.WorldView.{WorldView}
use Rattle.bz_world.proofs.Idling.{does-nothing}
use Rattle.bz_world.proofs.world.World.flush_next.Goals as goal

pub returns-clause-idle : goal.returns-clause-idle
returns-clause-idle c = subst (λ (l : WorldView). (MayAct l.at_start l.log.past c.args.w → ⊥) → c.flush_next.result ≡ false) c.self.view_is
    (λ none. c.flush_next.ensures.idle (does-nothing c.self.inside.parts c.args.w c.self.invariant.kept none))
