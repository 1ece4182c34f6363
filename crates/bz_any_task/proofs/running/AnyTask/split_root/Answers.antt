use Rattle.std.proofs.Common.{sym}
use Rattle.bz_any_task.specs.MadeFor.{IsMadeFor}
use Rattle.bz_any_task.proofs.running.AnyTask.split_root.Goals as goal

pub returns-clause-made_for : goal.returns-clause-made_for
unfolding IsMadeFor
returns-clause-made_for c key words p is = record {
  view = c.args.view;
  leaf = record { is = is; frozen = c.requires.frozen; many = c.requires.many };
  at = sym c.new.ensures.slot;
  halves = c.new.ensures.halves.halves;
}
