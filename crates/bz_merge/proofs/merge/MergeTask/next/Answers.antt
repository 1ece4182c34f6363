use Rattle.std.proofs.Common.{◌≡◌, sym, ◌∙◌, arith, Some, None, rules}
use Rattle.bz_merge.specs.Duties.{merging_of}
use Rattle.bz_merge.proofs.Beginning.{asked-steps}
use Rattle.bz_merge.proofs.merge.MergeTask.next.Goals as goal

pub returns-clause-learns : goal.returns-clause-learns
returns-clause-learns c stage s now same good free facts tells = c.step.ensures.learns stage s same good free facts tells

pub returns-clause-goes : goal.returns-clause-goes
returns-clause-goes c = record {
  asked = search rules;
  nearer = let u = c.step.new.self in omega (arith, c.step.ensures.nearer, asked-steps u.config (merging_of u) u.phase);
  fewer = search rules;
  counted = search rules;
  config = search rules;
  change = search rules;
  basis = search rules;
  meant = search rules;
  slots = search rules;
  kept = search rules;
  begins = λ outcome s e. let q : None ≡ Some outcome = sym (c.step.ensures.begins s) ∙ e in absurd (cc);
  last = search rules;
  only_last = search rules;
  done = search rules;
  published = search rules;
  restart = search rules;
  no_swap = search rules;
  full_swaps = search rules;
  full_nodes = search rules;
}
