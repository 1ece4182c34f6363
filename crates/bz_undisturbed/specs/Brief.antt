-- A look-up that is made while no other call is open: no swap takes effect, it is not begun again, and its worker's acts are at most twice
-- the reads that it asks for.
use Rattle.std.specs.Prelude.{◌≡◌, ◌≢◌, ℕ, ◌+◌, ◌*◌, ◌≤◌, List, Option, Some, None}
use Rattle.bz_swap_acts.specs.declared.acted.Act.{Act}
use Rattle.bz_descend.specs.SeekFacts.{path_reads}
use Rattle.bz_layout.specs.Slots.{FreeSlots}
use Rattle.bz_leaf.specs.Facts.{IsLastLink}
use Rattle.bz_swap_machine.specs.declared.done.Done.{Done}
use Rattle.bz_rivals.specs.Rivals.{rivals}
use Rattle.bz_any_task.specs.Duties.{config_of, asks_of, end_of, change_of, facts_of}
use Rattle.bz_any_task.specs.Hearing.{HasHeard}
use Rattle.bz_any_task.specs.LookingUp.{ForWay, ForKey, NoLook, look_of, reads_asked, HasCounted, LooksUpBriefly}
use Rattle.bz_any_task.specs.declared.running.AnyTask.{AnyTask}
use Rattle.bz_swap.specs.Solo.{left_to}
use Rattle.bz_swap.specs.Evictions.{IsEviction}
use Rattle.bz_swap.specs.Starts.{started}
use Rattle.bz_swap.specs.Steps.{IsStep}
use Rattle.bz_swap.specs.SwapMemory.{SwapMemory, Idle, Reading, doing_of}
use Rattle.bz_swap.specs.declared.phase.Phase.TheVariants.{Recovering}
use Rattle.bz_task.specs.Outcomes.{IsPath, IsKeyView}
use Rattle.bz_task.specs.Requests.{Tells}
use Rattle.bz_task.specs.Scene.{Scene, Waiting, IsScene}
use Rattle.bz_task.specs.declared.path.Link.{Link}
use Rattle.bz_task.specs.declared.path.Path.{Path}
use Rattle.bz_task.specs.declared.todo.Outcome.TheVariants as outcome
use Rattle.bz_task.specs.declared.todo.Seen.{Seen}
use Rattle.bz_task.specs.declared.todo.Todo.{Todo}
use Rattle.bz_task.specs.declared.todo.Todo.TheVariants.{Read}
use Rattle.bz_task.specs.declared.view.KeyView.{KeyView}
use Rattle.bz_undisturbed.specs.Undisturbed.{IsUndisturbed}
use Rattle.bz_undisturbed.specs.Reads.{get_reads}

-- nobody does anything
abbrev pub AllIdle : SwapMemory → Type 0
AllIdle m = (v : ℕ) → doing_of m v ≡ Idle

-- the reads of the way to the leaf, once it is found
abbrev pub reads_before : Option Path → ℕ
reads_before None = 0
reads_before (Some path) = path_reads path

-- the task looks for the way to the leaf of the key, or for the key in the leaf at the end of the way
abbrev pub LooksFor : List ℕ → Option Path → AnyTask → Type 0
LooksFor key None t = look_of t ≡ ForWay
LooksFor key (Some path) t = (look_of t ≡ ForKey) × ((change_of t).key ≡ key) × ((link : Link) × IsLastLink path link)

-- the worker has made so many acts: with the steps that are left to it they are at most twice the reads that were asked for so far, and
-- nobody else has a swap under way
pub record IsBrief (m : SwapMemory) (w acts : ℕ) (key : List ℕ) (way : Option Path) (t : AnyTask) : Type 0 where
  pub looks : LooksFor key way t
  pub calm : rivals m w ≡ 0
  pub few : acts + left_to m w ≤ 2 * (reads_before way + reads_asked t)

-- a look-up that begins while nobody does anything is so; its worker's acts and evictions tell no effect, and leave it so
pub record LookUpsAreBrief : Type 0 where
  pub begins : (m : SwapMemory) (w a : ℕ) (key : List ℕ) (t : AnyTask) → AllIdle m → look_of t ≡ ForWay → reads_asked t ≡ 1 → IsBrief (started m w (Reading a)) w 0 key None t
  pub step :
      (old new : SwapMemory) (w a : ℕ) (made : Act) (done : Done) (told : Option ℕ) (acts : ℕ) (key : List ℕ) (way : Option Path) (t : AnyTask) → doing_of old w ≡ Reading a → IsStep old w made done told new →
      IsBrief old w acts key way t → (told ≡ None) × IsBrief new w (acts + 1) key way t
  pub eviction :
      (old new : SwapMemory) (w a b : ℕ) (told : Option ℕ) (acts : ℕ) (key : List ℕ) (way : Option Path) (t : AnyTask) → old.phase ≢ Recovering → doing_of old w ≡ Reading b → IsEviction old a told new →
      IsBrief old w acts key way t → (told ≡ None) × IsBrief new w acts key way t
  -- so does what the task is told, and the start of the next read
  pub told : (m : SwapMemory) (w acts : ℕ) (key : List ℕ) (way : Option Path) (t u : AnyTask) (todo : Todo) → HasCounted t todo u → change_of u ≡ change_of t → IsBrief m w acts key way t → IsBrief m w acts key way u
  pub reads : (m : SwapMemory) (w acts : ℕ) (key : List ℕ) (way : Option Path) (t u : AnyTask) (a : ℕ) → HasCounted t (Read a) u → change_of u ≡ change_of t → IsBrief m w acts key way t → IsBrief (started m w (Reading a)) w acts key way u

-- the way that was found is looked at next
abbrev pub WaysAreBrief : Type 0
WaysAreBrief =
    (m : SwapMemory) (w acts : ℕ) (key : List ℕ) (path : Path) (t u : AnyTask) (s : Scene) → IsBrief m w acts key None t → LooksUpBriefly t → facts_of t Waiting s → end_of t ≡ Some (outcome.Path path) →
    look_of u ≡ ForKey → reads_asked u ≡ 0 → (change_of u).key ≡ key → ((link : Link) × IsLastLink path link) → IsBrief m w acts key (Some path) u

-- such a look-up is not begun again: what it reads stands
abbrev pub BriefLookUpsGoOn : Type 0
BriefLookUpsGoOn =
    (t u : AnyTask) (seen : Seen) (moment : ℕ) (free left : FreeSlots) (todo : Todo) (s : Scene) → s.past.config ≡ config_of t → IsScene s → facts_of t Waiting s → IsUndisturbed 0 s.past → look_of t ≢ NoLook →
    LooksUpBriefly t → Tells (asks_of t) Waiting seen s → HasHeard t seen moment free todo u left → end_of u ≢ Some outcome.Restart

-- and once it has ended its acts are at most twice the reads of a get, in the image at the moment of the view
abbrev pub GetsAreBrief : Type 0
GetsAreBrief =
    (m : SwapMemory) (w acts : ℕ) (key : List ℕ) (path : Path) (t : AnyTask) (view : KeyView) (s : Scene) → IsBrief m w acts key (Some path) t → LooksUpBriefly t → IsScene s → IsUndisturbed 0 s.past → facts_of t Waiting s →
    end_of t ≡ Some (outcome.Key view) → IsKeyView key view s.past → IsPath key path s.past → acts ≤ 2 * get_reads s.past.config (s.past.at view.at).image key
