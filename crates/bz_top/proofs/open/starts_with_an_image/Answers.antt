use Rattle.std.proofs.Common.{subst}
use Rattle.bz_layout.specs.Config.{IsConfig}
use Rattle.bz_top.proofs.FreshLemmas.{fresh_image}
use Rattle.bz_top.proofs.open.starts_with_an_image.Goals as goal

pub returns : goal.returns
returns c = fresh_image c.args.world.now.config c.args.world.now.log.start (subst IsConfig c.config-config.ensures.config c.config-config.ensures.in_range) c.requires c.journal-journal.ensures.sound.size
