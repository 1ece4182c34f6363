use Rattle.std.proofs.Common.{ap, subst}
use Rattle.bz_layout.specs.Config.{IsConfig}
use Rattle.bz_content.proofs.Proved.{fresh_memory_reaches_slot_zero}
use Rattle.bz_world.specs.WorldView.{WorldView}
use Rattle.bz_world.proofs.ReachedNow.{fresh-reaches-one}
use Rattle.bz_world.proofs.world.World.open.Goals as goal

pub returns-clause-root : goal.returns-clause-root
returns-clause-root c = fresh-reaches-one fresh_memory_reaches_slot_zero c.args.config.now (subst IsConfig (ap (λ (lab : WorldView). lab.config) c.in_ok-parts.ensures.ok) c.in_ok-parts.ensures.kept.kept.tabled.config)
