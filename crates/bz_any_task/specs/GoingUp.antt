-- The split of the node above, where a split lacked the room there.
use Rattle.std.specs.Prelude.{◌≡◌, ◌<◌, ◌≤◌, ◌-◌, ℕ, max, true, List, Option, Some, None}
use Rattle.bz_crown.specs.Due as crown
use Rattle.bz_crown.specs.Facts.{crown_acts}
use Rattle.bz_fork.specs.Due as fork
use Rattle.bz_fork.specs.Facts.{fork_acts}
use Rattle.bz_layout.specs.declared.config.Config.{Config}
use Rattle.bz_layout.specs.declared.thresholds.TheConstants.{SPLIT_SLOTS}
use Rattle.bz_ascent.specs.Ascents.{IsAscent, IsOneUp}
use Rattle.bz_ascent.specs.declared.ascent.Ascent.{Ascent}
use Rattle.bz_task.specs.Scene.{Past, Scene, Waiting, IsScene}
use Rattle.bz_task.specs.declared.path.Path.{Path}
use Rattle.bz_layout.specs.declared.swaps.TheConstants.{RENEWAL_SWAPS}
use Rattle.bz_task.specs.declared.todo.Outcome.TheVariants.{NeedsRoom}
use Rattle.bz_task.specs.declared.view.LeafView.{LeafView}
use Rattle.bz_any_task.specs.Duties.{config_of, asks_of, end_of, swaps_of, made_of, wants_of, ascent_of, facts_of, makes_no_change, left_of}
use Rattle.bz_any_task.specs.Hearing.{IsLookup}
use Rattle.bz_any_task.specs.Kinds.{kind_of, IsNodeSplit}
use Rattle.bz_any_task.specs.MadeFor.{HasFoot, WasCrowded, IsMadeFor}
use Rattle.bz_any_task.specs.declared.running.AnyTask.{AnyTask}

-- the task knows what it should, in some scene
pub record IsInScene (t : AnyTask) : Type 0 where
  pub scene : Scene
  pub facts : facts_of t Waiting scene

-- the node to which an ascent has come, above another one, may be split: below a parent and at the root
pub record MayBeSplit (a : Ascent) : Type 0 where
  pub below : 0 < a.place → fork.IsDue a.path (a.place - 1)
  pub root : a.place ≡ 0 → crown.IsDue a.path

-- a split of the node to which an ascent has come, which is yet to begin
pub record IsSplitAt (c : Config) (a : Ascent) (t : AnyTask) : Type 0 where
  pub config : config_of t ≡ c
  pub kind : IsNodeSplit a (kind_of t)
  pub asks : asks_of t ≡ None
  pub left : left_of t ≤ max fork_acts crown_acts
  pub swaps : swaps_of t ≡ RENEWAL_SWAPS
  pub made : made_of t ≡ 0
  pub wants : wants_of t ≡ SPLIT_SLOTS
  pub silent : makes_no_change t ≡ true
  pub facts : (s : Scene) → s.past.config ≡ c → IsScene s → IsAscent a s.past → facts_of t Waiting s
  pub ends : (way : Option Path) → IsLookup a.key way t
  -- it is made for the key of the ascent, where that begins at a leaf which has to be split
  pub made_for : (view : LeafView) (words : ℕ) (p : Past) → HasFoot a → WasCrowded a.key view p → IsMadeFor t a.key words p

-- a node stands above the one to which an ascent has come
pub record HasOneUp (a : Ascent) : Type 0 where
  pub up : Ascent
  pub one : IsOneUp a up

-- the ascent of one split, and that of the next, which has come one node further up
pub record IsNextUp (t next : AnyTask) : Type 0 where
  pub from : Ascent
  pub up : Ascent
  pub begun : ascent_of t ≡ Some from
  pub one : IsOneUp from up
  pub kind : IsNodeSplit up (kind_of next)

-- a split that lacked room, and the one that is to be made first
pub record GoesUp (t next : AnyTask) : Type 0 where
  pub config : config_of next ≡ config_of t
  pub above : IsNextUp t next
  pub asks : asks_of next ≡ None
  pub left : left_of next ≤ max fork_acts crown_acts
  pub swaps : swaps_of next ≡ RENEWAL_SWAPS
  pub made : made_of next ≡ 0
  pub wanted : wants_of t ≡ SPLIT_SLOTS
  pub wants : wants_of next ≡ SPLIT_SLOTS
  pub silent : makes_no_change next ≡ true
  pub facts : (s : Scene) → s.past.config ≡ config_of t → IsScene s → facts_of t Waiting s → end_of t ≡ Some NeedsRoom → facts_of next Waiting s
  pub ends : (key : List ℕ) (way other : Option Path) → IsLookup key way t → IsLookup key other next
  pub made_for : (key : List ℕ) (words : ℕ) (p : Past) → IsMadeFor t key words p → IsMadeFor next key words p
