use Rattle.std.proofs.Common.{rules}
use Rattle.bz_descend.proofs.Causes.{cause}
use Rattle.bz_descend.proofs.SeekStaying.{seek-stable}
use Rattle.bz_descend.proofs.seek.SeekTask.learnt.Goals as goal

pub returns : goal.returns
returns c = record {
  stable = λ stage s after same facts good step. let t = c.args.self.now in (seek-stable t.key t.path t.height t.words t.phase stage s after facts.0 step, facts.1);
  askable = search rules;
  cause = λ s seen same facts differs. let t = c.args.self.now in cause t.config t.key t.path t.height t.words t.phase s seen same facts.0 differs;
  few = search rules;
  once = search rules;
  ends = search rules;
}
