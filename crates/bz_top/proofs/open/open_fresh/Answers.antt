use Rattle.std.proofs.Common.{arith}
use Rattle.bz_top.proofs.FreshLemmas.{stocked_fresh}
use Rattle.bz_top.proofs.open.open_fresh.Goals as goal

pub returns-in-Ok-clause-stocked : goal.returns-in-Ok-clause-stocked
returns-in-Ok-clause-stocked c = stocked_fresh c.args.config.now c.in-Ok.world c.in-Ok.ensures.ok c.in-Ok.ensures.root (omega (arith, c.requires.nodes_in_range.at_least))
