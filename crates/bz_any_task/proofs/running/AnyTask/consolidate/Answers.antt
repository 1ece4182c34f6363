use Rattle.std.proofs.Common.{sym}
use Rattle.bz_any_task.specs.MadeFor.{IsMadeFor}
use Rattle.bz_any_task.proofs.running.AnyTask.consolidate.Goals as goal

pub returns-clause-made_for : goal.returns-clause-made_for
unfolding IsMadeFor
returns-clause-made_for c key words p is few = record { view = c.args.view; is = is; at = sym c.new.ensures.slot; small = record { made = c.new.ensures.copy; few = few } }
