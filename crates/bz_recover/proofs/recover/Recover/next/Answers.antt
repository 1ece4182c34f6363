use Rattle.std.proofs.Common.{◌≡◌, arith, refl, sym, ◌∙◌, subst}
use Rattle.std.specs.Prelude.{Option, Some}
use Rattle.std.proofs.lemmas.Bool.{true≢false}
use Rattle.bz_sweep.specs.Duties.{acts_in, asks_of as sweep_asks, tells_in as sweep_tells}
use Rattle.bz_sweep.specs.declared.ask.Answer.{Answer}
use Rattle.bz_sweep.specs.declared.ask.Ask.{Ask}
use Rattle.bz_sweep.specs.declared.ask.Ask.TheVariants.{Load, Store, Flush, Finish as NoMore}
use Rattle.bz_task.specs.Requests.{steps_in}
use Rattle.bz_task.specs.declared.todo.Todo.{Todo}
use Rattle.bz_recover.specs.Duties.{todo_of, asks_in}
use Rattle.bz_recover.specs.Walking.{asks_of_walk}
use Rattle.bz_recover.proofs.Joining.{no-end, tells}
use Rattle.bz_recover.proofs.recover.Recover.next.Goals as goal

-- an act of the sweep takes as many steps as it is to the sweep
same-acts : (ask : Ask) (todo : Todo) (walks : Option Todo) → todo_of ask ≡ Some todo → steps_in (asks_in (Some ask) walks) ≡ acts_in (Some ask)
same-acts (Load a) todo walks is = refl
same-acts (Store a x) todo walks is = refl
same-acts (Flush line) todo walks is = refl
same-acts NoMore todo walks is = absurd cc

pub returns-in-Some-clause-ready : goal.returns-in-Some-clause-ready
returns-in-Some-clause-ready c = record {
  sweep = c.next-2.ensures.ready;
  walk = c.requires.ready.walk;
  area = c.next-2.ensures.area ∙ c.requires.ready.area;
  sizes = c.requires.ready.sizes;
  before = λ ne. c.requires.ready.before (λ e. true≢false (sym (c.ended.ensures.1 e) ∙ c.if-ended.false));
  begun = λ e. absurd (no-end c.next-2.result c.in-Some.todo (sym c.in-Some.ensures) (let same : Some c.next-2.result ≡ Some NoMore = sym c.next-2.ensures.asked ∙ e in cc));
}

pub returns-in-Some-clause-sooner : goal.returns-in-Some-clause-sooner
returns-in-Some-clause-sooner c v m k =
    let same : steps_in (asks_in (sweep_asks c.next-2.new.self) (asks_of_walk c.args.self.now.walk)) ≡ acts_in (sweep_asks c.next-2.new.self) =
    rw c.next-2.ensures.asked (same-acts c.next-2.result c.in-Some.todo (asks_of_walk c.args.self.now.walk) (sym c.in-Some.ensures)) in
    omega (arith, c.next-2.ensures.sooner v m k, same)

pub returns-in-Some-clause-nearer : goal.returns-in-Some-clause-nearer
returns-in-Some-clause-nearer c =
    let same : steps_in (asks_in (sweep_asks c.next-2.new.self) (asks_of_walk c.args.self.now.walk)) ≡ acts_in (sweep_asks c.next-2.new.self) =
    rw c.next-2.ensures.asked (same-acts c.next-2.result c.in-Some.todo (asks_of_walk c.args.self.now.walk) (sym c.in-Some.ensures)) in
    omega (arith, c.next-2.ensures.nearer, same)

-- the sweep is told what came of its act
pub returns-in-Some-clause-learns : goal.returns-in-Some-clause-learns
returns-in-Some-clause-learns c v m k t =
    let asks = sweep_asks c.args.self.now.sweep in
    let here = tells asks (asks_of_walk c.args.self.now.walk) c.args.seen m (λ e. true≢false (sym (c.ended.ensures.1 e) ∙ c.if-ended.false)) t in
    c.next-2.ensures.learns v m k (subst (λ (a : Answer). sweep_tells asks a m) (sym c.answer_of.ensures) here)

pub returns-in-None-clause-learns : goal.returns-in-None-clause-learns
returns-in-None-clause-learns c v m k t =
    let asks = sweep_asks c.args.self.now.sweep in
    let here = tells asks (asks_of_walk c.args.self.now.walk) c.args.seen m (λ e. true≢false (sym (c.ended.ensures.1 e) ∙ c.if-ended.false)) t in
    c.next-2.ensures.learns v m k (subst (λ (a : Answer). sweep_tells asks a m) (sym c.answer_of.ensures) here)
