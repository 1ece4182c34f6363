use Rattle.std.proofs.Common.{◌≡◌, ◌<◌, arith, refl, ap, subst, sym, ◌∙◌, inr, rules}
use Rattle.std.specs.Prelude.{Some, None}
use Rattle.bz_leaf.specs.Facts.{IsLastLink}
use Rattle.bz_task.specs.Outcomes.{IsPath}
use Rattle.bz_task.specs.Requests.{steps_in}
use Rattle.bz_task.specs.OwnActs.{gained}
use Rattle.bz_task.specs.Scene.{Waiting}
use Rattle.bz_task.specs.declared.todo.Outcome.TheVariants.{Restart}
use Rattle.bz_find.specs.Duties.{end_of, left_of, facts_of}
use Rattle.bz_find.specs.Facts.{find_change}
use Rattle.bz_find.specs.Phases.{find_asks, find_end, told, counted}
use Rattle.bz_find.specs.declared.find.Find.{Find}
use Rattle.bz_find.specs.declared.phase.FindPhase.{FindPhase}
use Rattle.bz_find.specs.declared.phase.FindPhase.TheVariants.{Fresh}
use Rattle.bz_find.proofs.Counts.{counts-told}
use Rattle.bz_find.proofs.Keeping.{keeps-at}
use Rattle.bz_find.proofs.Restarts.{restarts-at, begins-at, end-counted}
use Rattle.bz_find.proofs.Stepping.{steps, fewer-left}
use Rattle.bz_find.proofs.Telling.{tells, no-slot}
use Rattle.bz_find.proofs.find.FindTask.next.Goals as goal

-- nothing that it asks for is a flush
one-step : (t : Find) (p : FindPhase) → steps_in (find_asks t p) ≡ 1
one-step t Fresh = refl
one-step t p = refl

pub returns-clause-learns : goal.returns-clause-learns
returns-clause-learns c stage s now same good free facts told-so =
    let t = c.args.self.now in
    let u = told t t.phase c.args.seen c.args.moment in
    let k = keeps-at t t.phase c.args.seen c.args.moment c.requires.hears in
    let new : c.answered.new.self ≡ counted u = c.answered.ensures.new in
    let path : IsPath u.key u.path s.past = rw (k.key, k.path) facts.1 in
    let last : IsLastLink u.path u.link = rw (k.path, k.link) facts.3 in
    let learnt = tells t s same good stage c.args.seen c.args.moment now facts.2 facts.0 told-so in
    let counts = counts-told t s same good stage c.args.seen c.args.moment facts.2 facts.0 facts.4 told-so in
    let all : facts_of (counted u) Waiting (gained s c.args.slots.now c.args.slots.now) =
    (no-slot (counted u) u.phase s c.args.slots.now learnt, path, (steps t c.args.seen c.args.moment c.heard.ensures.bounded c.requires.hears c.heard.ensures.plain).0, last, counts) in
    subst (λ z. facts_of z Waiting (gained s c.args.slots.now c.args.slots.now)) (sym new) all

pub returns-clause-goes : goal.returns-clause-goes
returns-clause-goes c = record {
  asked = search rules;
  nearer = let t = c.args.self.now in
      let u = told t t.phase c.args.seen c.args.moment in
      let k = keeps-at t t.phase c.args.seen c.args.moment c.requires.hears in
      let new = c.answered.new.self in
      let near : left_of new < left_of t = rw c.answered.ensures.new (fewer-left t u k.asked (steps t c.args.seen c.args.moment c.heard.ensures.bounded c.requires.hears c.heard.ensures.plain).1 c.heard.ensures.bounded.few) in
      omega (arith, near, one-step new new.phase);
  fewer = search rules;
  counted = search rules;
  config = search rules;
  change = let t = c.args.self.now in
      rw c.answered.ensures.new (ap find_change (keeps-at t t.phase c.args.seen c.args.moment c.requires.hears).key);
  basis = search rules;
  meant = search rules;
  slots = search rules;
  kept = search rules;
  begins = λ outcome s e. let t = c.args.self.now in
      let u = told t t.phase c.args.seen c.args.moment in
      let new : c.answered.new.self ≡ counted u = c.answered.ensures.new in
      let goes_on : find_end u u.phase ≡ None = subst (λ z. find_end (told t t.phase z c.args.moment) (told t t.phase z c.args.moment).phase ≡ None) (sym s) (begins-at t t.phase c.args.moment) in
      let ends : find_end u u.phase ≡ Some outcome = sym (end-counted u u.phase) ∙ subst (λ z. end_of z ≡ Some outcome) new e in
      let no : None ≡ Some outcome = sym goes_on ∙ ends in
      absurd (cc);
  last = search rules;
  only_last = search rules;
  done = search rules;
  published = search rules;
  restart = λ e. let t = c.args.self.now in
      let u = told t t.phase c.args.seen c.args.moment in
      let new : c.answered.new.self ≡ counted u = c.answered.ensures.new in
      inr (restarts-at t t.phase c.args.seen c.args.moment c.requires.hears (sym (end-counted u u.phase) ∙ subst (λ z. end_of z ≡ Some Restart) new e));
  no_swap = search rules;
  full_swaps = search rules;
  full_nodes = search rules;
}
