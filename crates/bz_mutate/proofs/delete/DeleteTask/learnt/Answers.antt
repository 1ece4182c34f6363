use Rattle.std.proofs.Common.{rules}
use Rattle.bz_mutate.proofs.DeleteActing.{askable}
use Rattle.bz_mutate.proofs.DeleteStaying.{stable}
use Rattle.bz_mutate.proofs.delete.DeleteTask.learnt.Goals as goal

pub returns : goal.returns
returns c = record {
  stable = λ stage s after same facts good step. let t = c.args.self.now in stable t.key t.view s after step t.phase stage facts;
  askable = λ s todo same facts good asks. let t = c.args.self.now in askable t.config t.key t.view t.phase s todo same facts good asks;
  cause = search rules;
  few = search rules;
  once = search rules;
  ends = search rules;
}
