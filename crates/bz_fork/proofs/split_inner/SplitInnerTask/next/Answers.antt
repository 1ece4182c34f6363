use Rattle.std.proofs.Common.{◌≡◌, sym, subst, ◌∙◌, arith, Some, None, rules}
use Rattle.bz_task.specs.Requests.{Hears}
use Rattle.bz_fork.specs.Duties.{fork_of}
use Rattle.bz_fork.specs.Facts.{fork_asks}
use Rattle.bz_fork.proofs.Beginning.{asked-steps, one-left}
use Rattle.bz_fork.proofs.split_inner.SplitInnerTask.next.Goals as goal

pub returns-clause-learns : goal.returns-clause-learns
returns-clause-learns c = c.step.ensures.learns

pub returns-clause-goes : goal.returns-clause-goes
returns-clause-goes c = record {
  asked = search rules;
  nearer = let u = c.step.new.self in omega (arith, c.step.ensures.nearer, asked-steps u.config (fork_of u) u.phase);
  fewer = search rules;
  counted = search rules;
  config = search rules;
  change = search rules;
  basis = search rules;
  meant = search rules;
  slots = search rules;
  kept = search rules;
  begins = λ outcome s e. let q : None ≡ Some outcome = sym (c.step.ensures.begins s) ∙ e in absurd (cc);
  last = search rules;
  only_last = λ e. let t = c.args.self.now in one-left t.config (fork_of t) t.phase (subst (Hears (fork_asks t.config (fork_of t) t.phase)) (c.step.ensures.done e) c.requires.hears);
  done = search rules;
  published = search rules;
  restart = search rules;
  no_swap = search rules;
  full_swaps = search rules;
  full_nodes = search rules;
}
