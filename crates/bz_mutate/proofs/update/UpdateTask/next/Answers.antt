use Rattle.std.proofs.Common.{◌≡◌, arith, refl, subst, Some, rules}
use Rattle.bz_layout.specs.declared.config.Config.{Config}
use Rattle.bz_record.specs.declared.new_record.NewRecord.{NewRecord}
use Rattle.bz_task.specs.Requests.{EndsAtOnce, steps_in}
use Rattle.bz_task.specs.declared.todo.Outcome.{Outcome}
use Rattle.bz_task.specs.declared.todo.Outcome.TheVariants.{NeedsRoom as Needs}
use Rattle.bz_mutate.specs.UpdateFacts.{IsFirst, update_asks, update_end, update_steps}
use Rattle.bz_mutate.specs.declared.update_phase.UpdatePhase.{UpdatePhase}
use Rattle.bz_mutate.specs.declared.update_phase.UpdatePhase.TheVariants.{Fresh, Grow, NeedsRoom}
use Rattle.bz_mutate.proofs.UpdateStaying.{no-slot}
use Rattle.bz_mutate.proofs.update.UpdateTask.next.Goals as goal

pub returns-clause-learns : goal.returns-clause-learns
returns-clause-learns c stage s now same good free facts tells =
    let t = c.args.self.now in no-slot t.view t.added s c.args.slots.now c.after-self.result (c.after-self.ensures.learns stage s same good facts tells)

-- the steps of what a phase asks for
asked-steps : (c : Config) (r : NewRecord) (p : UpdatePhase) → steps_in (update_asks c r p) ≡ update_steps p
asked-steps c r Fresh = refl
asked-steps c r p = refl

-- it may end as it begins for want of room alone
first-ends : (p : UpdatePhase) (outcome : Outcome) → IsFirst p → update_end p ≡ Some outcome → EndsAtOnce 0 outcome
first-ends (Grow f) outcome w e = absurd (cc)
first-ends NeedsRoom outcome w e = subst (EndsAtOnce 0) (one outcome e) tt
  where
    one : (o : Outcome) → Some Needs ≡ Some o → Needs ≡ o
    one o e = cc
first-ends p outcome w e = absurd (w)

pub returns-clause-goes : goal.returns-clause-goes
returns-clause-goes c = record {
  asked = search rules;
  nearer = let t = c.args.self.now in omega (arith, c.after-self.ensures.nearer, asked-steps t.config t.added c.after-self.result);
  fewer = search rules;
  counted = search rules;
  config = search rules;
  change = search rules;
  basis = search rules;
  meant = search rules;
  slots = search rules;
  kept = search rules;
  begins = λ outcome s e. first-ends c.after-self.result outcome (c.after-self.ensures.begins s) e;
  last = search rules;
  only_last = search rules;
  done = search rules;
  published = search rules;
  restart = search rules;
  no_swap = search rules;
  full_swaps = search rules;
  full_nodes = search rules;
}
