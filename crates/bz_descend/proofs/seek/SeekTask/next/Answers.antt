use Rattle.std.proofs.Common.{◌≡◌, ◌<◌, arith, refl, subst, sym, inr, rules}
use Rattle.std.specs.Prelude.{Some}
use Rattle.bz_layout.specs.declared.config.Config.{Config}
use Rattle.bz_task.specs.OwnActs.{gained}
use Rattle.bz_task.specs.Requests.{steps_in}
use Rattle.bz_task.specs.Scene.{Waiting}
use Rattle.bz_task.specs.declared.todo.Outcome.TheVariants.{Restart}
use Rattle.bz_descend.specs.SeekDuties.{end_of, left_of, facts_of}
use Rattle.bz_descend.specs.SeekFacts.{seek_asks, seek_facts}
use Rattle.bz_descend.specs.declared.sight.Way.{Way}
use Rattle.bz_descend.specs.declared.sight.Way.TheVariants.{Fresh}
use Rattle.bz_descend.proofs.Moving.{counted-on, fewer-left, restarts}
use Rattle.bz_descend.proofs.Seeking.{seek-no-slot}
use Rattle.bz_descend.proofs.seek.SeekTask.next.Goals as goal

pub asks_for-requires-clause-few : goal.asks_for-requires-clause-few
asks_for-requires-clause-few c = let a = c.after-self.ensures in omega (arith, a.asked, a.nearer, c.heard.ensures.counted.few)

-- nothing that it asks for is a flush
one-step : (c : Config) (p : Way) → steps_in (seek_asks c p) ≡ 1
one-step c Fresh = refl
one-step c p = refl

pub returns-clause-learns : goal.returns-clause-learns
returns-clause-learns c stage s now same good free facts tells =
    let t = c.args.self.now in let a = c.after-self.ensures in let u = c.after-self.new.self in
    let learnt : seek_facts u.key u.path u.height u.words c.after-self.result Waiting (gained s c.args.slots.now c.args.slots.now) =
    rw a.key (seek-no-slot t.key u.path u.height u.words s c.args.slots.now c.after-self.result a.begun (a.learns stage s same good facts.0 tells)) in
    subst (λ z. facts_of z Waiting (gained s c.args.slots.now c.args.slots.now)) (sym c.asks_for.ensures.new)
    (learnt, counted-on t.config u.config t.path u.path t.height u.height t.phase c.after-self.result t.asked u.asked facts.1 a.config a.bounds a.low a.nearer a.reads a.asked)

pub returns-clause-goes : goal.returns-clause-goes
returns-clause-goes c = record {
  asked = search rules;
  nearer = let t = c.args.self.now in let a = c.after-self.ensures in let u = c.after-self.new.self in
      let new = c.asks_for.new.self in
      let near : left_of new < left_of t = subst (λ z. left_of z < left_of t) (sym c.asks_for.ensures.new) (fewer-left t.path u.path t.phase c.after-self.result t.asked u.asked a.asked a.nearer c.heard.ensures.counted.few) in
      omega (arith, near, one-step new.config new.phase);
  fewer = search rules;
  counted = search rules;
  config = search rules;
  change = search rules;
  basis = search rules;
  meant = search rules;
  slots = search rules;
  kept = search rules;
  begins = search rules;
  last = search rules;
  only_last = search rules;
  done = search rules;
  published = search rules;
  restart = λ e. let u = c.after-self.new.self in
      inr (c.after-self.ensures.restart (restarts u.path c.after-self.result (subst (λ z. end_of z ≡ Some Restart) c.asks_for.ensures.new e)));
  no_swap = search rules;
  full_swaps = search rules;
  full_nodes = search rules;
}
