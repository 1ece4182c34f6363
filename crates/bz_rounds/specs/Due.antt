-- Before a node is made anew it is asked whether the guards of the links on the way to it were no frozen nodes'. While nobody's swap takes
-- effect they were not: inner nodes of a tree are not frozen, and neither is the root status.
use Rattle.std.specs.Prelude.{◌≡◌, ℕ, ◌+◌, ◌<◌, ◌≤◌, true, false, List, Some, slice_get}
use Rattle.bz_ascent.specs.Ascents.{IsAscent}
use Rattle.bz_ascent.specs.declared.ascent.Ascent.{Ascent}
use Rattle.bz_tally.specs.FromBelow.Facts.{IsThawedAbove}
use Rattle.bz_undisturbed.specs.FromMerge.Thawed.{IsLedTo}
use Rattle.bz_renew.specs.Due.{IsStatusOf, IsDue}
use Rattle.bz_word.specs.Statuses.{status}
use Rattle.bz_task.specs.Outcomes.{IsPath, IsView}
use Rattle.bz_task.specs.Scene.{Scene, IsScene}
use Rattle.bz_task.specs.declared.path.Link.{Link}
use Rattle.bz_task.specs.declared.path.Path.{Path}
use Rattle.bz_task.specs.declared.view.LeafView.{LeafView}
use Rattle.bz_undisturbed.specs.Undisturbed.{IsUndisturbed}
use Rattle.bz_undisturbed.specs.FromRunning.GoingUp.{MayBeSplit}

-- no guard of a link of the path, as it was read, was a frozen node's
abbrev pub UndisturbedGuardsAreThawed : Type 0
UndisturbedGuardsAreThawed =
    (key : List ℕ) (path : Path) (s : Scene) → IsScene s → IsUndisturbed 0 s.past → IsPath key path s.past →
    (i : ℕ) (link : Link) → i < path.depth → slice_get path.links i ≡ Some link → IsStatusOf false link.status

-- a leaf that was viewed, and to which the path leads, may be made anew: what is asked besides of how many links and of how many live
-- words. Where it is frozen, it may be copied and split at the root; below a parent it may be split and merged too
pub record MayBeMadeAnew (path : Path) (view : LeafView) : Type 0 where
  pub due : (status view.status).frozen ≡ true → IsDue path view
  pub led : IsLedTo path view.slot
  pub above : 2 ≤ path.depth → IsThawedAbove path

abbrev pub UndisturbedLeavesAreDue : Type 0
UndisturbedLeavesAreDue = (key : List ℕ) (path : Path) (view : LeafView) (s : Scene) → IsScene s → IsUndisturbed 0 s.past → IsPath key path s.past → IsView key view s.past → MayBeMadeAnew path view

abbrev pub UndisturbedAscentsAreDue : Type 0
UndisturbedAscentsAreDue = (a : Ascent) (s : Scene) → IsScene s → IsUndisturbed 0 s.past → IsAscent a s.past → a.place + 1 < a.path.depth → MayBeSplit a
