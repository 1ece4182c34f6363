-- The laws of a task, whichever it is: those that its contract gives.
use Rattle.std.specs.Prelude.{◌≡◌, ◌≢◌, ◌≤◌, ℕ, ◌+◌, true, false, IsSome, List, Option, Some, None}
use Rattle.bz_ascent.specs.Ascents.{IsAscent, IsOneUp}
use Rattle.bz_ascent.specs.Full.{AreAllFull}
use Rattle.bz_ascent.specs.declared.ascent.Ascent.{Ascent}
use Rattle.bz_call.specs.declared.replies.Spent.TheVariants.{Height}
use Rattle.bz_layout.specs.declared.thresholds.TheConstants.{SPLIT_SLOTS}
use Rattle.bz_word.specs.declared.entry.Entry.{Entry}
use Rattle.bz_task.specs.Contract.{IsSound, ActsWell}
use Rattle.bz_task.specs.Scene.{Past, Scene, Continues, Stage, Waiting, IsScene}
use Rattle.bz_task.specs.declared.todo.Outcome.{Outcome}
use Rattle.bz_task.specs.declared.todo.Outcome.TheVariants.{Full, NeedsRoom}
use Rattle.bz_task.specs.declared.todo.Todo.{Todo}
use Rattle.bz_task.specs.declared.todo.Todo.TheVariants.{Swap, Finish}
use Rattle.bz_any_task.specs.Duties.{config_of, asks_of, end_of, swaps_of, made_of, change_swaps, needs_of, wants_of, ascent_of, publishing_of, facts_of, means_of, makes_no_change, view_of}
use Rattle.bz_any_task.specs.Ends.{IsEndOf, TakesNothing, TakesOneSwap}
use Rattle.bz_any_task.specs.Kinds.{kind_of, is_look, is_renewal}
use Rattle.bz_any_task.specs.MadeFor.{IsMadeFor, IsMergeFor, IsSmallMerge}
use Rattle.bz_any_task.specs.declared.running.AnyTask.{AnyTask}

-- on the way up each level that inner nodes may have was full
abbrev pub HaveFilledUp : Option Ascent → Past → Type 0
HaveFilledUp None p = ⊥
HaveFilledUp (Some a) p = AreAllFull a.key p

pub record AreLaws (t : AnyTask) : Type 0 where
  -- what it knows is sound, and its own acts are as they should be
  pub sound : IsSound (view_of t)
  pub acts : ActsWell (view_of t)
  -- what it was made for stays
  pub made_for : (key : List ℕ) (words : ℕ) (p q : Past) → IsMadeFor t key words p → Continues p q → IsMadeFor t key words q
  pub merge_for : (key : List ℕ) (p q : Past) → IsMergeFor t key p → Continues p q → IsMergeFor t key q
  pub small_for : (key : List ℕ) (p q : Past) → IsSmallMerge t key p → Continues p q → IsSmallMerge t key q
  -- what it still is to take is no more than what it takes in all, and that no more than a split takes
  pub few : needs_of t ≤ wants_of t
  pub most : wants_of t ≤ SPLIT_SLOTS
  -- the swap that makes the change is the last one of those that the change takes
  pub last : publishing_of t ≡ true → made_of t + 1 ≡ change_swaps t
  -- so is the one that a change asks for where no more than one is left
  pub publishes_last : (entries : List Entry) → makes_no_change t ≡ false → swaps_of t ≤ 1 → asks_of t ≡ Some (Swap entries) → publishing_of t ≡ true
  pub looks : is_look (kind_of t) ≡ true → TakesNothing t
  pub single : is_renewal (kind_of t) ≡ true → TakesOneSwap t
  -- it ends in no way but those of its kind
  pub ends_of : (o : Outcome) (s : Scene) → means_of t o s → IsEndOf (kind_of t) o
  -- a change that goes on was found to have room, so it never ends for want of it
  pub going : (todo : Todo) (stage : Stage) (s z : Scene) → makes_no_change t ≡ false → asks_of t ≡ Some todo → todo ≢ Finish → facts_of t stage s → means_of t NeedsRoom z → ⊥
  -- it has ended exactly where it asks for nothing more
  pub finish : asks_of t ≡ Some Finish → IsSome (end_of t)
  pub only : IsSome (end_of t) → asks_of t ≡ Some Finish
  -- where a split found no room in the node above, its ascent goes on there
  pub rises : (a up : Ascent) (s : Scene) → ascent_of t ≡ Some a → IsOneUp a up → s.past.config ≡ config_of t → IsScene s → facts_of t Waiting s → end_of t ≡ Some NeedsRoom → IsAscent up s.past
  -- the tree is too high only where an inner node of each level above the leaf of its key was full
  pub height : (s : Scene) → IsScene s → facts_of t Waiting s → end_of t ≡ Some (Full Height) → (wants_of t ≡ SPLIT_SLOTS) × HaveFilledUp (ascent_of t) s.past
