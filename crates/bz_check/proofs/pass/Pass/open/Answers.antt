use Rattle.bz_check.proofs.Passing.{opened_passes}
use Rattle.bz_check.proofs.pass.Pass.open.Goals as goal

pub returns : goal.returns
returns c = λ at h. opened_passes c.args.config.now c.args.power c.args.start.now at c.in_ok-replay.replay c.in_ok-table.table c.args.map.entries c.none-sights.result c.in_ok-counter.counter c.in_ok-replay.ensures c.in_ok-table.ensures h c.none-sights.ensures c.in_ok-counter.ensures
