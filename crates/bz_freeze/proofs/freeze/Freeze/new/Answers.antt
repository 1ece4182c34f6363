use Rattle.bz_freeze.proofs.Asking.{was-leaf}
use Rattle.bz_freeze.proofs.freeze.Freeze.new.Goals as goal

pub returns-clause-facts : goal.returns-clause-facts
returns-clause-facts c key s same good v = was-leaf key c.args.view s good v c.requires.thawed
