-- How many swaps of other workers took effect since the present look-up of a call began. Where there are none, the swap that its worker
-- waits for goes well, and its task does not end to begin again.
use Rattle.std.specs.Prelude.{◌≡◌, ◌≢◌, ℕ, ◌+◌, if◌then◌else◌, false, Some}
use Rattle.bz_solo.specs.FromAlone.Counts.{HasOthers}
use Rattle.bz_rivals.specs.Wins.{GoesWell}
use Rattle.bz_any_task.specs.Duties.{config_of, end_of, made_of, facts_of}
use Rattle.bz_any_task.specs.declared.running.AnyTask.{AnyTask}
use Rattle.bz_swap.specs.SwapMemory.{SwapMemory, Doing, Swapping, has_effect}
use Rattle.bz_task.specs.Requests.{effects_in}
use Rattle.bz_task.specs.Scene.{Past, Scene, Waiting}
use Rattle.bz_task.specs.declared.todo.Outcome.{Outcome}
use Rattle.bz_task.specs.declared.todo.Outcome.TheVariants.{Restart}
use Rattle.bz_task.specs.declared.todo.Seen.{Seen}
use Rattle.bz_task.specs.declared.todo.Seen.TheVariants.{Swapped}
use Rattle.bz_task.specs.declared.todo.Todo.{Todo}
use Rattle.bz_task.specs.declared.todo.Todo.TheVariants.{Finish}

-- how many effects a worker has had of which its task was not told: one, where it waits for a swap that took effect
abbrev pub untold : SwapMemory → Doing → ℕ
untold m (Swapping s) = if has_effect m s then 1 else 0
untold m doing = 0

-- the swap that it does, if it does one, goes well
abbrev pub DoesWell : SwapMemory → Doing → Type 0
DoesWell m (Swapping s) = GoesWell m s
DoesWell m doing = Unit {0}

-- a task that waits for what it asked for has known what it should while that had no effect
pub record HasWaited (t : AnyTask) : Type 0 where
  pub scene : Scene
  pub config : scene.past.config ≡ config_of t
  pub facts : facts_of t Waiting scene

-- while it waits: so many swaps of others took effect since its look-up began, beside its own
pub record WaitsUndisturbed (m : SwapMemory) (doing : Doing) (t : AnyTask) (p : Past) : Type 0 where
  pub others : ℕ
  pub counted : HasOthers others (made_of t + untold m doing) p
  pub well : others ≡ 0 → DoesWell m doing
  pub waited : HasWaited t

-- when it is to be told this: no swap of a worker that was alone is answered with false
pub record HearsUndisturbed (t : AnyTask) (seen : Seen) (p : Past) : Type 0 where
  pub others : ℕ
  pub counted : HasOthers others (made_of t + effects_in seen) p
  pub wins : others ≡ 0 → seen ≢ Swapped false
  pub waited : HasWaited t

-- once it was told and asks for this: where it has ended, and its worker was alone, that is not to begin again
pub record AsksUndisturbed (t : AnyTask) (todo : Todo) (p : Past) : Type 0 where
  pub others : ℕ
  pub made : ℕ
  pub counted : HasOthers others made p
  pub stands : todo ≡ Finish → others ≡ 0 → end_of t ≢ Some Restart

-- so it is of this end
pub record EndsAlone (outcome : Outcome) (p : Past) : Type 0 where
  pub others : ℕ
  pub made : ℕ
  pub counted : HasOthers others made p
  pub stands : others ≡ 0 → outcome ≢ Restart
