use Rattle.std.proofs.Common.{rules}
use Rattle.bz_freeze.proofs.Asking.{askable}
use Rattle.bz_freeze.proofs.Staying.{stable}
use Rattle.bz_freeze.proofs.freeze.FreezeTask.learnt.Goals as goal

pub returns : goal.returns
returns c = record {
  stable = λ stage s after same facts good step. let t = c.args.self.now in stable t.slot t.status s after step t.phase stage facts;
  askable = λ s todo same f good e. let t = c.args.self.now in askable t.config t.slot t.status t.phase s todo same f good e;
  cause = search rules;
  few = search rules;
  once = search rules;
  ends = search rules;
}
