use Rattle.std.proofs.Common.{rules}
use Rattle.bz_task.proofs.Proved.{paths_stay}
use Rattle.bz_find.proofs.Causes.{cause}
use Rattle.bz_find.proofs.Counts.{counts-stay}
use Rattle.bz_find.proofs.Staying.{stable}
use Rattle.bz_find.proofs.find.FindTask.learnt.Goals as goal

pub returns : goal.returns
returns c = record {
  stable = λ stage s after same facts good step. let t = c.args.self.now in (stable t t.phase stage s after facts.0 step, paths_stay t.key t.path s.past after.past facts.1 step.continues, facts.2, facts.3, counts-stay s.past after.past step.continues t t.phase facts.4);
  askable = search rules;
  cause = λ s seen same facts differs. let t = c.args.self.now in cause t t.phase s seen same facts.0 differs;
  few = search rules;
  once = search rules;
  ends = search rules;
}
