-- A solitary get, as it is served: it is made while no other call is open, so no swap takes effect beside it, and its acts are few.
use Rattle.std.specs.Prelude.{◌≡◌, ◌≢◌, ℕ, suc, false, List, length, get_or, Option, Some, None}
use Rattle.bz_solo.specs.FromAlone.Brief.{IsBrief}
use Rattle.bz_call.specs.declared.calls.Call.{Call}
use Rattle.bz_call.specs.declared.calls.Call.TheVariants as call
use Rattle.bz_mark.specs.declared.marks.Mark.{Mark}
use Rattle.bz_any_task.specs.Duties.{end_of}
use Rattle.bz_any_task.specs.LookingUp.{LooksUpBriefly}
use Rattle.bz_sound.specs.Calls.{Open, open_call}
use Rattle.bz_sound.specs.Solitary.{IsSolitary, acts_since}
use Rattle.bz_refinement.specs.Story.{Story}
use Rattle.bz_swap.specs.Starts.{started}
use Rattle.bz_swap.specs.SwapMemory.{SwapMemory, Reading}
use Rattle.bz_task.specs.declared.todo.Outcome.TheVariants.{Restart}
use Rattle.bz_task.specs.declared.todo.Todo.{Todo}
use Rattle.bz_task.specs.declared.todo.Todo.TheVariants as todo
use Rattle.bz_world.specs.declared.serving.OpenCall.{OpenCall}

-- this holds where the call of a worker is a solitary get: no other call has been open since its begin
abbrev pub WhereSolitary : List Mark → ℕ → Call → (List ℕ → Type 0) → Type 0
WhereSolitary past w called holds = (key : List ℕ) → called ≡ call.Get key → IsSolitary w past → holds key

-- it is no such call
abbrev pub IsNotSolitary : List Mark → ℕ → Call → Type 0
IsNotSolitary past w called = WhereSolitary past w called (λ key. ⊥)

abbrev pub IsNotSolitaryIn : List Mark → ℕ → Option OpenCall → Type 0
IsNotSolitaryIn past w None = Unit {0}
IsNotSolitaryIn past w (Some x) = IsNotSolitary past w x.call

-- it is one: its look-up is brief, and no swap took effect since it began
pub record IsSolitaryGet (m : SwapMemory) (past : List Mark) (story : Story) (w : ℕ) (x : OpenCall) (opened : Open) (key : List ℕ) : Type 0 where
  pub brief : IsBrief m w (acts_since w past) key x.path x.task
  pub looks : LooksUpBriefly x.task
  pub alone : (story.at (length past)).effects ≡ (story.at (suc opened.begun)).effects
  pub quiet : x.effect ≡ None
  pub thawed : x.froze ≡ false

-- what it looked for has ended, and is not to be begun again
pub record HasLooked (m : SwapMemory) (past : List Mark) (story : Story) (w : ℕ) (x : OpenCall) (opened : Open) (key : List ℕ) : Type 0 where
  pub get : IsSolitaryGet m past story w x opened key
  pub stands : end_of x.task ≢ Some Restart

-- it asks for a read, which is to be started, or for nothing more
abbrev pub AsksBriefly : SwapMemory → List Mark → Story → ℕ → OpenCall → Open → List ℕ → Todo → Type 0
AsksBriefly m past story w x opened key (todo.Read a) = IsSolitaryGet (started m w (Reading a)) past story w x opened key
AsksBriefly m past story w x opened key todo.Finish = HasLooked m past story w x opened key
AsksBriefly m past story w x opened key other = ⊥

-- so is the call of a worker served, if it is such a get
abbrev pub IsSolitaryIn : SwapMemory → List Mark → Story → List (Option OpenCall) → ℕ → Type 0
IsSolitaryIn m past story items w = (x : OpenCall) (opened : Open) → get_or items w None ≡ Some x → open_call w past ≡ Some opened → WhereSolitary past w x.call (IsSolitaryGet m past story w x opened)
