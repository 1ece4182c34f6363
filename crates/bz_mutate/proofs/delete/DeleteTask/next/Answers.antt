use Rattle.std.proofs.Common.{◌≡◌, arith, refl, subst, Some, rules}
use Rattle.bz_layout.specs.declared.config.Config.{Config}
use Rattle.bz_task.specs.Requests.{EndsAtOnce, steps_in}
use Rattle.bz_task.specs.declared.todo.Outcome.{Outcome}
use Rattle.bz_task.specs.declared.todo.Outcome.TheVariants.{NeedsRoom as Needs}
use Rattle.bz_task.specs.declared.view.KeyView.{KeyView}
use Rattle.bz_mutate.specs.DeleteFacts.{IsFirst, delete_asks, delete_end}
use Rattle.bz_mutate.specs.declared.delete_phase.DeletePhase.{DeletePhase}
use Rattle.bz_mutate.specs.declared.delete_phase.DeletePhase.TheVariants.{Fresh, Remove, NeedsRoom}
use Rattle.bz_mutate.proofs.delete.DeleteTask.next.Goals as goal

-- nothing that it asks for is a flush
one-step : (c : Config) (v : KeyView) (p : DeletePhase) → steps_in (delete_asks c v p) ≡ 1
one-step c v Fresh = refl
one-step c v p = refl

-- it may end as it begins for want of room alone
first-ends : (p : DeletePhase) (outcome : Outcome) → IsFirst p → delete_end p ≡ Some outcome → EndsAtOnce 0 outcome
first-ends (Remove f) outcome w e = absurd (cc)
first-ends NeedsRoom outcome w e = subst (EndsAtOnce 0) (one outcome e) tt
  where
    one : (o : Outcome) → Some Needs ≡ Some o → Needs ≡ o
    one o e = cc
first-ends p outcome w e = absurd (w)

pub returns-clause-goes : goal.returns-clause-goes
returns-clause-goes c = record {
  asked = search rules;
  nearer = let t = c.args.self.now in omega (arith, c.after-self.ensures.nearer, one-step t.config t.view c.after-self.result);
  fewer = search rules;
  counted = search rules;
  config = search rules;
  change = search rules;
  basis = search rules;
  meant = search rules;
  slots = search rules;
  kept = search rules;
  begins = λ outcome s e. first-ends c.after-self.result outcome (c.after-self.ensures.begins s) e;
  last = search rules;
  only_last = search rules;
  done = search rules;
  published = search rules;
  restart = search rules;
  no_swap = search rules;
  full_swaps = search rules;
  full_nodes = search rules;
}
