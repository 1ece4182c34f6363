-- A task that is told what came of what it asked for.
use Rattle.std.specs.Prelude.{◌≡◌, ◌≢◌, ◌<◌, ℕ, true, List, Option, Some, None, get_or}
use Rattle.bz_call.specs.Map.{key_of}
use Rattle.bz_layout.specs.Slots.{FreeSlots}
use Rattle.bz_any_task.specs.Duties.{config_of, asks_of, needs_of, facts_of, means_of, goes_on}
use Rattle.bz_any_task.specs.Hearing.{HasHeard}
use Rattle.bz_solo.specs.FromAlone.Undisturbed.{IsUndisturbed}
use Rattle.bz_solo.specs.Prices.{coming}
use Rattle.bz_solo.specs.Rounds.{stage_now}
use Rattle.bz_any_task.specs.Kinds as kinds
use Rattle.bz_any_task.specs.Kinds.{kind_of}
use Rattle.bz_any_task.specs.Laws.{AreLaws}
use Rattle.bz_any_task.specs.LookingUp.{HasCounted, LooksUpBriefly}
use Rattle.bz_refinement.specs.Story.{scene}
use Rattle.bz_task.specs.Outcomes.{IsPath}
use Rattle.bz_task.specs.Requests.{Hears, IsKnown}
use Rattle.bz_task.specs.declared.path.Path.{Path}
use Rattle.bz_task.specs.Scene.{Scene}
use Rattle.bz_task.specs.declared.todo.Outcome.TheVariants.{NeedsRoom}
use Rattle.bz_task.specs.declared.todo.Seen.{Seen}
use Rattle.bz_task.specs.declared.todo.Seen.TheVariants.{Start}
use Rattle.bz_task.specs.declared.todo.Todo.{Todo}
use Rattle.bz_task.specs.declared.todo.Todo.TheVariants.{Swap}
use Rattle.bz_word.specs.declared.entry.Entry.{Entry}
use Rattle.bz_world.specs.Inside.Acted.{IsBetween, IsAsking, MustTell}
use Rattle.bz_world.specs.Inside.Solitary.{IsNotSolitary}
use Rattle.bz_world.specs.Inside.Paid.{errand_of, HasToSpare}
use Rattle.bz_world.specs.declared.parts.Parts.{Parts}
use Rattle.bz_world.specs.declared.serving.OpenCall.{OpenCall}

-- the task of the call that is served may be told this, in a memory with these slots
abbrev pub CanHear : Option OpenCall → Seen → ℕ → FreeSlots → Type 0
CanHear None seen moment free = ⊥
CanHear (Some x) seen moment free = Hears (asks_of x.task) seen × IsKnown (config_of x.task) (facts_of x.task) (asks_of x.task) seen moment × (0 < needs_of x.task → free.nodes ≡ (config_of x.task).nodes)

-- it was told, and asks for something else
pub record HasTold (x : OpenCall) (seen : Seen) (moment : ℕ) (free : FreeSlots) (todo : Todo) (y : OpenCall) (left : FreeSlots) : Type 0 where
  pub rest : y ≡ record x { task = y.task }
  pub heard : HasHeard x.task seen moment free todo y.task left
  pub laws : AreLaws y.task
  pub counts : HasCounted x.task todo y.task
  pub looks : LooksUpBriefly y.task

abbrev pub HasToldIn : Option OpenCall → Seen → ℕ → FreeSlots → Todo → Option OpenCall → FreeSlots → Type 0
HasToldIn (Some x) seen moment free todo (Some y) left = HasTold x seen moment free todo y left
HasToldIn old seen moment free todo new left = ⊥

-- the worker's call is served, and its task asks for this
pub record MustStart (p : Parts) (w : ℕ) (todo : Todo) : Type 0 where
  pub serving : OpenCall
  pub is : get_or p.workers.items w None ≡ Some serving
  pub asking : IsAsking p w serving todo

-- it asks for a swap, and every descriptor was taken
pub record LacksDescriptor (p : Parts) (todo : Todo) : Type 0 where
  pub entries : List Entry
  pub is : todo ≡ Swap entries
  pub spent : p.access.taken ≡ p.config.swaps

-- the way to the leaf of a call without effect was found, and is one of the memory since its look-up began
pub record KnowsWay (p : Parts) (w : ℕ) (x : OpenCall) (between : IsBetween p w x) : Type 0 where
  pub leads : (path : Path) → x.path ≡ Some path → IsPath (key_of x.call) path (scene p.config p.journal.past between.story w between.call_open.look.since between.opened).past
  pub quiet : x.effect ≡ None
  pub some : x.path ≢ None
  -- and its task takes no slot
  pub slotless : needs_of x.task ≡ 0
  pub spares : HasToSpare p w x (scene p.config p.journal.past between.story w between.call_open.look.since between.opened).past (λ r q. coming r q (errand_of x) kinds.Find)
  -- its task ends for want of room only where there is none, in a clean round
  pub lacks : (z : Scene) → means_of x.task NeedsRoom z → IsUndisturbed 0 (scene p.config p.journal.past between.story w between.call_open.look.since between.opened).past
      → 0 < stage_now (errand_of x) (scene p.config p.journal.past between.story w between.call_open.look.since between.opened).past

-- a task that is to be told this, with such a way
pub record MustTellOf (p : Parts) (w : ℕ) (seen : Seen) : Type 0 where
  pub must : MustTell p w seen
  pub knows : KnowsWay p w must.serving must.told.between

-- and one that asks for this then
pub record MustStartOf (p : Parts) (w : ℕ) (todo : Todo) : Type 0 where
  pub must : MustStart p w todo
  pub knows : KnowsWay p w must.serving must.asking.between

-- the task of a call is to be told to begin, and that call is no solitary get
pub record MustBegin (p : Parts) (w : ℕ) : Type 0 where
  pub tell : MustTell p w Start
  pub other : IsNotSolitary p.journal.past w tell.serving.call
  -- its task does not end as it begins
  pub goes : goes_on tell.serving.task ≡ true

-- the look-up of a call's key, whose path was found, has been told to begin, and asks for this
pub record MustStartFound (p : Parts) (w : ℕ) (todo : Todo) : Type 0 where
  pub start : MustStartOf p w todo
  pub kind : kind_of start.must.serving.task ≡ kinds.Find
  pub path : Path
  pub found : start.must.serving.path ≡ Some path
