-- What a task is told, and what comes of that.
use Rattle.std.specs.Prelude.{◌≡◌, ◌≢◌, ℕ, ◌+◌, true, List, Option, Some, None}
use Rattle.bz_ascent.specs.declared.ascent.Ascent.{Ascent}
use Rattle.bz_layout.specs.Slots.{FreeSlots}
use Rattle.bz_task.specs.Contract.{GoesOn, Learns}
use Rattle.bz_task.specs.Outcomes.{IsPath, IsView, IsKeyView}
use Rattle.bz_task.specs.Requests.{effects_in}
use Rattle.bz_task.specs.Scene.{Past, Scene}
use Rattle.bz_task.specs.declared.path.Path.{Path}
use Rattle.bz_task.specs.declared.todo.Outcome.TheVariants as outcome
use Rattle.bz_task.specs.declared.todo.Seen.{Seen}
use Rattle.bz_task.specs.declared.todo.Seen.TheVariants.{Start}
use Rattle.bz_task.specs.declared.todo.Todo.{Todo}
use Rattle.bz_task.specs.declared.view.KeyView.{KeyView}
use Rattle.bz_task.specs.declared.view.LeafView.{LeafView}
use Rattle.bz_any_task.specs.Duties.{end_of, made_of, change_swaps, wants_of, ascent_of, means_of, makes_no_change, leaves_few_of, goes_on, view_of}
use Rattle.bz_any_task.specs.Kinds.{Merge, kind_of}
use Rattle.bz_any_task.specs.MadeFor.{IsMadeFor, IsMergeFor, IsSmallMerge}
use Rattle.bz_any_task.specs.declared.running.AnyTask.{AnyTask}

-- a path or a view with which the task ends is one of this key; and with a view, of the leaf or of the key alone, this path, if there
-- is one, still is one. A split on the way up goes along a path of this key
pub record IsLookup (key : List ℕ) (way : Option Path) (t : AnyTask) : Type 0 where
  pub path : (path : Path) (s : Scene) → means_of t (outcome.Path path) s → IsPath key path s.past
  pub view : (view : LeafView) (s : Scene) → means_of t (outcome.View view) s → IsView key view s.past
  pub found : (view : KeyView) (s : Scene) → means_of t (outcome.Key view) s → IsKeyView key view s.past
  pub leads : (path : Path) → way ≡ Some path → (view : LeafView) (s : Scene) → means_of t (outcome.View view) s → IsPath key path s.past
  pub leads_found : (path : Path) → way ≡ Some path → (view : KeyView) (s : Scene) → means_of t (outcome.Key view) s → IsPath key path s.past
  pub ascent : (a : Ascent) → ascent_of t ≡ Some a → a.key ≡ key

-- the task was told this at a moment, and asks for that
pub record HasHeard (old : AnyTask) (seen : Seen) (moment : ℕ) (free : FreeSlots) (todo : Todo) (new : AnyTask) (left : FreeSlots) : Type 0 where
  pub goes : GoesOn (view_of old) (view_of new) seen free left todo
  pub learns : Learns (view_of old) (view_of new) seen moment free left
  pub swaps : change_swaps new ≡ change_swaps old
  pub wants : wants_of new ≡ wants_of old
  pub ascent : ascent_of new ≡ ascent_of old
  pub kind : kind_of new ≡ kind_of old
  pub silent : makes_no_change new ≡ makes_no_change old
  -- what it was made for it still is
  pub made_for : (key : List ℕ) (words : ℕ) (p : Past) → IsMadeFor old key words p → IsMadeFor new key words p
  pub merge_for : (key : List ℕ) (p : Past) → IsMergeFor old key p → IsMergeFor new key p
  pub small_for : (key : List ℕ) (p : Past) → IsSmallMerge old key p → IsSmallMerge new key p
  pub few : leaves_few_of new ≡ leaves_few_of old
  -- told to begin it goes on, if it is one that does
  pub begins : seen ≡ Start → goes_on old ≡ true → end_of new ≡ None
  -- a merge that ends because no neighbour has room has frozen nothing: none of its swaps has taken effect
  pub no_neighbour : kind_of old ≡ Merge → end_of new ≡ Some outcome.NeedsRoom → made_of old + effects_in seen ≡ 0
