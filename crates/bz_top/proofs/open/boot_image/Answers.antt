use Rattle.bz_top.proofs.FreshLemmas.{stocked_image}
use Rattle.bz_top.proofs.open.boot_image.Goals as goal

pub returns-in-Ok-clause-stocked : goal.returns-in-Ok-clause-stocked
returns-in-Ok-clause-stocked c = stocked_image c.args.config.now c.args.image.now c.in-Ok.world c.in-Ok.ensures.ok
