use Rattle.std.proofs.Common.{rules}
use Rattle.bz_task.proofs.Proved.{paths_stay}
use Rattle.bz_leaf.proofs.Staying.{stable}
use Rattle.bz_leaf.proofs.Causes.{cause}
use Rattle.bz_leaf.proofs.read_leaf.ReadLeafTask.learnt.Goals as goal

pub returns : goal.returns
returns c = record {
  stable = λ stage s after same facts good step. let t = c.args.self.now in (stable t.key t.link t.image.0 t.phase stage s after facts.0 step, paths_stay t.key t.path s.past after.past facts.1 step.continues, facts.2);
  askable = search rules;
  cause = λ s seen same facts differs. let t = c.args.self.now in cause t.config t.key t.link t.image t.image.0 t.phase s seen same facts.0 differs;
  few = search rules;
  once = search rules;
  ends = search rules;
}
