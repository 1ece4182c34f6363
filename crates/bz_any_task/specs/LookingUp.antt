-- How many reads a look-up asks for: a descent, and a look-up of a key in its leaf.
use Rattle.std.specs.Prelude.{◌≡◌, ◌≢◌, ℕ, ◌+◌, ◌≤◌, Some}
use Rattle.bz_descend.specs.SeekDuties as seek
use Rattle.bz_descend.specs.SeekFacts.{path_reads}
use Rattle.bz_find.specs.Duties as find
use Rattle.bz_find.specs.Facts.{find_reads}
use Rattle.bz_task.specs.Instant.{durable}
use Rattle.bz_task.specs.Scene.{Scene, Waiting}
use Rattle.bz_task.specs.declared.path.Path.{Path}
use Rattle.bz_task.specs.declared.todo.Outcome.{Outcome}
use Rattle.bz_task.specs.declared.todo.Outcome.TheVariants as outcome
use Rattle.bz_task.specs.declared.todo.Todo.{Todo}
use Rattle.bz_task.specs.declared.todo.Todo.TheVariants.{Read, Finish}
use Rattle.bz_task.specs.declared.view.KeyView.{KeyView}
use Rattle.bz_any_task.specs.Duties.{asks_of, end_of, change_of, facts_of}
use Rattle.bz_any_task.specs.declared.running.AnyTask.{AnyTask}
use Rattle.bz_any_task.specs.declared.running.AnyTask.TheVariants.{Seeking, Finding, Reading, Inserting, Updating, Deleting, Freezing, Consolidating, Splitting, SplittingBelow, SplittingInner, SplittingInnerRoot, Merging, MergingInner, Lowering}

-- what a task looks for without reading a leaf whole: the way to the leaf of a key, or the key in its leaf; other tasks look for neither
pub data Look : Type 0 where
  ForWay : Look
  ForKey : Look
  NoLook : Look

unfoldable pub look_of : AnyTask → Look
look_of (Seeking t) = ForWay
look_of (Finding t) = ForKey
look_of (Reading t) = NoLook
look_of (Inserting t) = NoLook
look_of (Updating t) = NoLook
look_of (Deleting t) = NoLook
look_of (Freezing t) = NoLook
look_of (Consolidating t) = NoLook
look_of (Splitting t) = NoLook
look_of (SplittingBelow t a) = NoLook
look_of (SplittingInner t a) = NoLook
look_of (SplittingInnerRoot t a) = NoLook
look_of (Merging t) = NoLook
look_of (MergingInner t) = NoLook
look_of (Lowering t) = NoLook

-- how many reads it has asked for; of no other task is this told
unfoldable pub reads_asked : AnyTask → ℕ
reads_asked (Seeking t) = seek.asked_of t
reads_asked (Finding t) = find.asked_of t
reads_asked (Reading t) = 0
reads_asked (Inserting t) = 0
reads_asked (Updating t) = 0
reads_asked (Deleting t) = 0
reads_asked (Freezing t) = 0
reads_asked (Consolidating t) = 0
reads_asked (Splitting t) = 0
reads_asked (SplittingBelow t a) = 0
reads_asked (SplittingInner t a) = 0
reads_asked (SplittingInnerRoot t a) = 0
reads_asked (Merging t) = 0
reads_asked (MergingInner t) = 0
reads_asked (Lowering t) = 0

-- the reads that are asked for by this
abbrev pub reads_in : Todo → ℕ
reads_in todo = find.asked_by todo

-- once it was told something it looks for what it looked for, and each read that a look-up asks for is counted
pub record HasCounted (old : AnyTask) (todo : Todo) (new : AnyTask) : Type 0 where
  pub look : look_of new ≡ look_of old
  pub reads : look_of old ≢ NoLook → reads_asked old + reads_in todo ≤ reads_asked new

-- it asks for reads alone, until it has ended
abbrev pub IsReadOrEnd : Todo → Type 0
IsReadOrEnd (Read a) = Unit {0}
IsReadOrEnd Finish = Unit {0}
IsReadOrEnd todo = ⊥

-- it ends with the path, or with what the leaf says of its key, or it is to be begun again
abbrev pub EndsAs : Look → Outcome → Type 0
EndsAs ForWay (outcome.Path path) = Unit {0}
EndsAs ForWay outcome.Restart = Unit {0}
EndsAs ForWay other = ⊥
EndsAs ForKey (outcome.Key view) = Unit {0}
EndsAs ForKey outcome.Restart = Unit {0}
EndsAs ForKey other = ⊥
EndsAs NoLook other = Unit {0}

-- the laws of look-ups: where one has ended, its reads are at most those of the inner nodes on its path, or of its leaf as that was when the key was viewed
pub record LooksUpBriefly (t : AnyTask) : Type 0 where
  pub asks : (todo : Todo) → look_of t ≢ NoLook → asks_of t ≡ Some todo → IsReadOrEnd todo
  pub ends : (o : Outcome) → end_of t ≡ Some o → EndsAs (look_of t) o
  pub path : (path : Path) (s : Scene) → facts_of t Waiting s → end_of t ≡ Some (outcome.Path path) → reads_asked t ≤ path_reads path
  pub found : (view : KeyView) (s : Scene) → facts_of t Waiting s → end_of t ≡ Some (outcome.Key view) → reads_asked t ≤ find_reads (durable s.past.config (s.past.at view.at) view.slot) (change_of t).key
