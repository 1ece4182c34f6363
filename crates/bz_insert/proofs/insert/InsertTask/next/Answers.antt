use Rattle.std.proofs.Common.{◌≡◌, ◌⊎◌, arith, refl, sym, ap, subst, ◌∙◌, inl, inr, Some, None, rules}
use Rattle.bz_layout.specs.declared.config.Config.{Config}
use Rattle.bz_record.specs.declared.new_record.NewRecord.{NewRecord}
use Rattle.bz_task.specs.Requests.{EndsAtOnce, steps_in}
use Rattle.bz_task.specs.declared.todo.Outcome.{Outcome}
use Rattle.bz_task.specs.declared.todo.Outcome.TheVariants.{NeedsRoom as Needs}
use Rattle.bz_insert.specs.Facts.{insert_asks, insert_end, insert_steps}
use Rattle.bz_insert.specs.declared.phase.InsertPhase.{InsertPhase}
use Rattle.bz_insert.specs.declared.phase.InsertPhase.TheVariants.{Fresh, Reserve, NeedsRoom}
use Rattle.bz_insert.proofs.Staying.{no-slot}
use Rattle.bz_insert.proofs.insert.InsertTask.next.Goals as goal

pub returns-clause-learns : goal.returns-clause-learns
returns-clause-learns c stage s now same good free facts tells =
    no-slot c.args.self.now.added s c.args.slots.now c.after-self.result (c.after-self.ensures.learns stage s same facts tells)

-- the steps of what a phase asks for
asked-steps : (c : Config) (r : NewRecord) (p : InsertPhase) → steps_in (insert_asks c r p) ≡ insert_steps p
asked-steps c r Fresh = refl
asked-steps c r p = refl

-- it may end as it begins for want of room alone
first-ends : (p : InsertPhase) (outcome : Outcome) → (p ≡ Reserve) ⊎ (p ≡ NeedsRoom) → insert_end p ≡ Some outcome → EndsAtOnce 0 outcome
first-ends p outcome h e = elim h [ inl a ↦ goes-on (sym (ap insert_end a) ∙ e) | inr a ↦ subst (EndsAtOnce 0) (one (sym (ap insert_end a) ∙ e)) tt ]
  where
    goes-on : None ≡ Some outcome → EndsAtOnce 0 outcome
    goes-on e = absurd (cc)

    one : Some Needs ≡ Some outcome → Needs ≡ outcome
    one e = cc

pub returns-clause-goes : goal.returns-clause-goes
returns-clause-goes c = record {
  asked = search rules;
  nearer = let t = c.args.self.now in omega (arith, c.after-self.ensures.nearer, asked-steps t.config t.added c.after-self.result);
  fewer = search rules;
  counted = search rules;
  config = search rules;
  change = search rules;
  basis = search rules;
  meant = search rules;
  slots = search rules;
  kept = search rules;
  begins = λ outcome s e. first-ends c.after-self.result outcome (c.after-self.ensures.begins s) e;
  last = search rules;
  only_last = search rules;
  done = search rules;
  published = search rules;
  restart = search rules;
  no_swap = search rules;
  full_swaps = search rules;
  full_nodes = search rules;
}
