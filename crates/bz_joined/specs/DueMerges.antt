-- Where the key's leaf may be merged, and was viewed, its merge is due: what is asked of the way to it and of the view before a merge begins.
use Rattle.std.specs.Prelude.{◌≡◌, ℕ, ◌-◌, ◌<◌, ◌≤◌, List, Some, slice_get}
use Rattle.bz_layout.specs.declared.thresholds.TheConstants.{MERGE_BELOW}
use Rattle.bz_merge.specs.Thawed.{IsThawedAbove, IsLedTo}
use Rattle.bz_slotted.specs.Readers.{live_of}
use Rattle.bz_slotted.specs.ReadingLaws.{node_of}
use Rattle.bz_stage.specs.FromLeaves.Neighbours.{own_live, MayBeMerged}
use Rattle.bz_task.specs.Outcomes.{IsPath, IsView}
use Rattle.bz_task.specs.Scene.{Scene, IsScene, here}
use Rattle.bz_task.specs.declared.path.Link.{Link}
use Rattle.bz_task.specs.declared.path.Path.{Path}
use Rattle.bz_task.specs.declared.view.LeafView.{LeafView}
use Rattle.bz_rounds.specs.FromAlone.Undisturbed.{IsUndisturbed}

-- where nobody's swap took effect since the look-up began, the leaf has as many live words now as when it was viewed
abbrev pub UndisturbedViewsTellTheLiveWords : Type 0
UndisturbedViewsTellTheLiveWords =
    (key : List ℕ) (view : LeafView) (s : Scene) → IsScene s → IsUndisturbed 0 s.past → IsView key view s.past → own_live s.past.config (here s).image key ≡ live_of (node_of view.image.0)

-- a leaf to which one link leads is the root, and has no neighbour
abbrev pub UndisturbedRootLeavesHaveNoNeighbour : Type 0
UndisturbedRootLeavesHaveNoNeighbour =
    (key : List ℕ) (path : Path) (link : Link) (s : Scene) → IsScene s → IsUndisturbed 0 s.past → IsPath key path s.past → slice_get path.links (path.depth - 1) ≡ Some link → path.depth ≡ 1 → MayBeMerged s.past.config (here s).image key → ⊥

-- two links and more lead to the viewed leaf, the last two by guards that were no frozen nodes', and it has too few live words to stand
-- alone
abbrev pub IsDueToMerge : Path → LeafView → Type 0
IsDueToMerge path view = (2 ≤ path.depth) × (IsThawedAbove path × ((live_of (node_of view.image.0) < MERGE_BELOW) × IsLedTo path view.slot))

abbrev pub UndisturbedMergesAreDue : Type 0
UndisturbedMergesAreDue =
    (key : List ℕ) (path : Path) (link : Link) (view : LeafView) (s : Scene) → IsScene s → IsUndisturbed 0 s.past → IsPath key path s.past → slice_get path.links (path.depth - 1) ≡ Some link → IsView key view s.past →
    MayBeMerged s.past.config (here s).image key → IsDueToMerge path view
