use Rattle.bz_sweep.proofs.Ahead.{few-acts}
use Rattle.bz_sweep.proofs.sweep.Sweep.new.Goals as goal

pub returns-clause-left : goal.returns-clause-left
returns-clause-left c m = few-acts c.args.area.now m.durable
