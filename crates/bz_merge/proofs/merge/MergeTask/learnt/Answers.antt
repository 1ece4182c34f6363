use Rattle.std.proofs.Common.{rules}
use Rattle.bz_merge.specs.Duties.{merging_of}
use Rattle.bz_merge.proofs.Asking.{askable, cause}
use Rattle.bz_merge.proofs.Staying.{stable}
use Rattle.bz_merge.proofs.merge.MergeTask.learnt.Goals as goal

pub returns : goal.returns
returns c = record {
  stable = λ stage s after same f good l. stable (merging_of c.args.self.now) s after l c.args.self.now.phase stage f;
  askable = λ s todo same f good e. let t = c.args.self.now in askable c.fronts_stay.ensures c.links_turn.ensures.asked c.statuses.ensures t.config (merging_of t) t.phase s todo same f good e;
  cause = λ s seen same f d. let t = c.args.self.now in cause t.config (merging_of t) t.phase s seen same f d;
  few = search rules;
  once = search rules;
  ends = search rules;
}
