-- A change that goes on has found room in its leaf: it does not end for want of it.
use Rattle.std.proofs.Common.{◌≡◌, ◌≢◌, ℕ, Bool, true, false, refl, sym, ap, subst, ◌∙◌, Option, Some, None}
use Rattle.std.specs.Prelude.{get_or}
use Rattle.bz_layout.specs.Slots.{FreeSlots}
use Rattle.bz_any_task.specs.Duties.{asks_of, end_of, means_of, makes_no_change}
use Rattle.bz_refinement.specs.Story.{scene}
use Rattle.bz_task.specs.Requests.{Hears}
use Rattle.bz_task.specs.Scene.{Scene}
use Rattle.bz_task.specs.declared.todo.Outcome.TheVariants.{NeedsRoom}
use Rattle.bz_task.specs.declared.todo.Seen.{Seen}
use Rattle.bz_task.specs.declared.todo.Seen.TheVariants as seen
use Rattle.bz_task.specs.declared.todo.Todo.{Todo}
use Rattle.bz_task.specs.declared.todo.Todo.TheVariants as todo
use Rattle.bz_world.specs.Inside.Acted.{MustTell}
use Rattle.bz_world.specs.Inside.Going.{end_in, makes_none_in, HasNotLackedRoom}
use Rattle.bz_world.specs.Inside.Telling.{HasTold, HasToldIn, MustStart}
use Rattle.bz_world.specs.declared.parts.Parts.{Parts}

-- what is told anything but to begin has asked for something
record HasAsked (asked : Option Todo) : Type 0 where
  pub request : Todo
  pub is : asked ≡ Some request
  pub more : request ≢ todo.Finish

has-asked : (asked : Option Todo) (told : Seen) → Hears asked told → told ≢ seen.Start → HasAsked asked
has-asked None seen.Start h other = absurd (other refl)
has-asked (Some (todo.Read a)) (seen.Read v) h other = record { request = todo.Read a; is = refl; more = λ e. cc e }
has-asked (Some (todo.Store a v)) seen.Stored h other = record { request = todo.Store a v; is = refl; more = λ e. cc e }
has-asked (Some (todo.Flush line)) seen.Flushed h other = record { request = todo.Flush line; is = refl; more = λ e. cc e }
has-asked (Some (todo.Swap entries)) (seen.Swapped won) h other = record { request = todo.Swap entries; is = refl; more = λ e. cc e }
has-asked (Some (todo.Swap entries)) seen.NoSwap h other = record { request = todo.Swap entries; is = refl; more = λ e. cc e }
has-asked asked told h other = absurd h

module _ (p : Parts) (w : ℕ) (told : Seen) (m : MustTell p w told) (other : told ≢ seen.Start) (q : Parts) (next : Todo) (asks : MustStart q w next) (moment : ℕ) (free left : FreeSlots) (is : HasToldIn (get_or p.workers.items w None) told moment free next (get_or q.workers.items w None) left) where
  heard : HasTold m.serving told moment free next asks.serving left
  heard = subst (λ z. HasToldIn z told moment free next (Some asks.serving) left) m.is (subst (λ z. HasToldIn (get_or p.workers.items w None) told moment free next z left) asks.is is)

  before : HasAsked (asks_of m.serving.task)
  before = has-asked (asks_of m.serving.task) told m.told.hears other

  -- a change would not have gone on
  never : (z : Scene) → means_of asks.serving.task NeedsRoom z → makes_no_change m.serving.task ≡ false → ⊥
  never z means change = m.told.tasked.laws.going before.request m.told.stage (scene p.config p.journal.past m.told.between.story w m.told.between.call_open.look.since m.told.between.opened) z change before.is before.more m.told.facts (heard.heard.goes.meant NeedsRoom z means)

  makes-none : end_of asks.serving.task ≡ Some NeedsRoom → makes_no_change asks.serving.task ≡ true
  makes-none ended = heard.heard.silent ∙ go (makes_no_change m.serving.task) refl
    where
      here : Scene
      here = scene q.config q.journal.past asks.asking.between.story w asks.asking.between.call_open.look.since asks.asking.between.opened

      go : (b : Bool) → makes_no_change m.serving.task ≡ b → makes_no_change m.serving.task ≡ true
      go true e = e
      go false e = absurd (never here (asks.asking.tasked.laws.sound.ends here NeedsRoom asks.asking.facts ended).0 e)

  pub room-found : HasNotLackedRoom q w
  room-found ended = ap makes_none_in asks.is ∙ makes-none (sym (ap end_in asks.is) ∙ ended)
