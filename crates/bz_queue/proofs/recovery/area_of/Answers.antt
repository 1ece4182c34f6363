use Rattle.bz_queue.proofs.Dark.{is-area}
use Rattle.bz_queue.proofs.recovery.area_of.Goals as goal

pub returns-clause-is : goal.returns-clause-is
returns-clause-is c = is-area c.args.ring.now c.requires
