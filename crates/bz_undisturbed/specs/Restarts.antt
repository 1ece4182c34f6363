-- What it tells where a task ends so that its call is looked up again.
use Rattle.std.specs.Prelude.{◌≡◌, ℕ, false, List, Option, Some}
use Rattle.bz_layout.specs.Slots.{FreeSlots}
use Rattle.bz_word.specs.declared.entry.Entry.{Entry}
use Rattle.bz_task.specs.Requests.{Tells}
use Rattle.bz_task.specs.Scene.{Scene, Stage, IsScene, here}
use Rattle.bz_task.specs.Swaps.{Stand}
use Rattle.bz_task.specs.declared.todo.Outcome.TheVariants.{Restart}
use Rattle.bz_task.specs.declared.todo.Seen.{Seen}
use Rattle.bz_task.specs.declared.todo.Seen.TheVariants.{Swapped}
use Rattle.bz_task.specs.declared.todo.Todo.{Todo}
use Rattle.bz_task.specs.declared.todo.Todo.TheVariants.{Swap}
use Rattle.bz_any_task.specs.Duties.{config_of, asks_of, end_of, made_of, facts_of}
use Rattle.bz_any_task.specs.Hearing.{HasHeard}
use Rattle.bz_any_task.specs.declared.running.AnyTask.{AnyTask}
use Rattle.bz_undisturbed.specs.Undisturbed.{IsUndisturbed}

-- its swap is answered with false, though all that it expects stands
pub record IsRefused (asks : Option Todo) (seen : Seen) (s : Scene) : Type 0 where
  pub entries : List Entry
  pub asked : asks ≡ Some (Swap entries)
  pub answer : seen ≡ Swapped false
  pub stands : Stand entries (here s)

-- while its worker is alone nothing else ends a task so: no load does
abbrev pub UndisturbedRestartsAreRefusals : Type 0
UndisturbedRestartsAreRefusals =
    (old new : AnyTask) (seen : Seen) (moment : ℕ) (free left : FreeSlots) (todo : Todo) (stage : Stage) (s : Scene) → HasHeard old seen moment free todo new left → end_of new ≡ Some Restart →
    s.past.config ≡ config_of old → IsScene s → facts_of old stage s → Tells (asks_of old) stage seen s → IsUndisturbed (made_of old) s.past → IsRefused (asks_of old) seen s
