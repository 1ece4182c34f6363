-- A solitary get whose task is told what it read.
use Rattle.std.proofs.Common.{◌≡◌, ◌≢◌, ℕ, length, arith, refl, sym, ap, subst, ◌∙◌, List, Option, Some}
use Rattle.bz_solo.specs.FromAlone.Undisturbed.{IsUndisturbed}
use Rattle.bz_solo.specs.FromAlone.Brief.{IsBrief}
use Rattle.bz_layout.specs.Slots.{FreeSlots}
use Rattle.bz_mark.specs.declared.marks.Mark.{Mark}
use Rattle.bz_any_task.specs.Duties.{asks_of, end_of, facts_of}
use Rattle.bz_any_task.specs.LookingUp.{NoLook, look_of, HasCounted}
use Rattle.bz_sound.specs.Calls.{Open}
use Rattle.bz_sound.specs.Solitary.{acts_since}
use Rattle.bz_refinement.specs.Laws.{takes_slots}
use Rattle.bz_refinement.specs.Story.{Story, scene}
use Rattle.bz_swap.specs.Starts.{started}
use Rattle.bz_swap.specs.SwapMemory.{SwapMemory, Reading}
use Rattle.bz_task.specs.Requests.{Tells}
use Rattle.bz_task.specs.Scene.{Scene, Waiting, IsScene}
use Rattle.bz_task.specs.declared.path.Path.{Path}
use Rattle.bz_task.specs.declared.todo.Outcome.TheVariants.{Restart}
use Rattle.bz_task.specs.declared.todo.Seen.{Seen}
use Rattle.bz_task.specs.declared.todo.Todo.{Todo}
use Rattle.bz_task.specs.declared.todo.Todo.TheVariants as todo
use Rattle.bz_world.specs.Inside.Acted.{IsTold}
use Rattle.bz_world.specs.Inside.Laws.{SolitaryLaws}
use Rattle.bz_world.specs.Inside.Solitary.{WhereSolitary, IsSolitaryGet, AsksBriefly}
use Rattle.bz_world.specs.Inside.Telling.{HasTold}
use Rattle.bz_world.specs.declared.parts.Parts.{Parts}
use Rattle.bz_world.specs.declared.serving.OpenCall.{OpenCall}
use Rattle.bz_world.proofs.Solitary.{looks-some, undisturbed-since}

module _ (b : SolitaryLaws) (p : Parts) (w : ℕ) (x : OpenCall) (seen : Seen) (told : IsTold p w x seen) (good : IsScene (scene p.config p.journal.past told.between.story w told.between.call_open.look.since told.between.opened)) (moment : ℕ) (asked : Todo) (left : FreeSlots) (y : OpenCall) (h : HasTold x seen moment p.slots asked y left) where
  abbrev here : Scene
  here = scene p.config p.journal.past told.between.story w told.between.call_open.look.since told.between.opened

  module _ (key : List ℕ) (was : IsSolitaryGet p.access p.journal.past told.between.story w x told.between.opened key) (waits : told.stage ≡ Waiting) where
    looked : look_of x.task ≢ NoLook
    looked = looks-some key x.path x.task was.brief.looks

    looks : look_of y.task ≢ NoLook
    looks e = looked (sym h.counts.look ∙ e)

    alone : IsUndisturbed 0 here.past
    alone = omega (
      arith,
      undisturbed-since b.fall p.config told.between.story.at told.between.story.from (length p.journal.past) told.between.opened.begun told.between.call_open.look.since told.between.living.history
          (told.between.living.begins w told.between.opened told.between.call_open.is_open) told.between.call_open.look.after_begin told.between.call_open.look.by_now was.alone,
    )

    stands : end_of y.task ≢ Some Restart
    stands = b.goes_on x.task y.task seen moment p.slots left asked here (sym told.tasked.config) good (subst (λ z. facts_of x.task z here) waits told.facts) alone looked was.looks (subst (λ z. Tells (asks_of x.task) z seen here) waits told.tells) h.heard

    -- it is as before, with another task
    gets : (m : SwapMemory) → IsBrief m w (acts_since w p.journal.past) key x.path y.task → IsSolitaryGet m p.journal.past told.between.story w y told.between.opened key
    gets m brief = record {
      brief = subst (λ (z : Option Path). IsBrief m w (acts_since w p.journal.past) key z y.task) (sym (ap (λ (z : OpenCall). z.path) h.rest)) brief;
      looks = h.looks;
      alone = was.alone;
      quiet = ap (λ (z : OpenCall). z.effect) h.rest ∙ was.quiet;
      thawed = ap (λ (z : OpenCall). z.froze) h.rest ∙ was.thawed;
    }

    asks : (z : Todo) → asked ≡ z → AsksBriefly p.access p.journal.past told.between.story w y told.between.opened key z
    asks (todo.Read a) e = gets (started p.access w (Reading a))
        (b.brief.reads p.access w (acts_since w p.journal.past) key x.path x.task y.task a (subst (λ z. HasCounted x.task z y.task) e h.counts) h.heard.goes.change was.brief)
    asks todo.Finish e = record { get = gets p.access (b.brief.told p.access w (acts_since w p.journal.past) key x.path x.task y.task asked h.counts h.heard.goes.change was.brief); stands = stands }
    asks (todo.Load a) e = h.looks.asks (todo.Load a) looks (h.heard.goes.asked ∙ ap Some e)
    asks (todo.Store a v) e = h.looks.asks (todo.Store a v) looks (h.heard.goes.asked ∙ ap Some e)
    asks (todo.Flush line) e = h.looks.asks (todo.Flush line) looks (h.heard.goes.asked ∙ ap Some e)
    asks (todo.Swap entries) e = h.looks.asks (todo.Swap entries) looks (h.heard.goes.asked ∙ ap Some e)

  pub told-solitary : WhereSolitary p.journal.past w y.call (λ key. AsksBriefly p.access p.journal.past told.between.story w y told.between.opened key asked)
  told-solitary key get solitary =
      let was = told.solitary key (sym (ap (λ (z : OpenCall). z.call) h.rest) ∙ get) solitary in
      asks key was.0 was.1 asked refl

-- which slots its worker took is nothing to that
took-get : (m : SwapMemory) (past : List Mark) (story : Story) (w : ℕ) (x : OpenCall) (opened : Open) (key : List ℕ) (old new : FreeSlots) → IsSolitaryGet m past story w x opened key → IsSolitaryGet m past (takes_slots story w old new) w x opened key
took-get m past story w x opened key old new g = record { brief = g.brief; looks = g.looks; alone = g.alone; quiet = g.quiet; thawed = g.thawed }

pub took-solitary : (m : SwapMemory) (past : List Mark) (story : Story) (w : ℕ) (x : OpenCall) (opened : Open) (key : List ℕ) (old new : FreeSlots) (z : Todo) → AsksBriefly m past story w x opened key z → AsksBriefly m past (takes_slots story w old new) w x opened key z
took-solitary m past story w x opened key old new (todo.Read a) g = took-get (started m w (Reading a)) past story w x opened key old new g
took-solitary m past story w x opened key old new todo.Finish g = record { get = took-get m past story w x opened key old new g.get; stands = g.stands }
took-solitary m past story w x opened key old new (todo.Load a) g = absurd g
took-solitary m past story w x opened key old new (todo.Store a v) g = absurd g
took-solitary m past story w x opened key old new (todo.Flush line) g = absurd g
took-solitary m past story w x opened key old new (todo.Swap entries) g = absurd g
