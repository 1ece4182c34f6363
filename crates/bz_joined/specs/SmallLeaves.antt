-- A delete that leaves a leaf which may be merged tells that it leaves little there, and the leaf stands below another node.
use Rattle.std.specs.Prelude.{◌≡◌, ℕ, ◌-◌, ◌<◌, ◌≤◌, true, List, Some, slice_get}
use Rattle.bz_layout.specs.declared.config.Config.{Config}
use Rattle.bz_tree.specs.Walk.{IsTree}
use Rattle.bz_word.specs.declared.entry.Entry.{Entry}
use Rattle.bz_content.specs.Content.{view_in}
use Rattle.bz_stage.specs.FromLeaves.Neighbours.{MayBeMerged}
use Rattle.bz_task.specs.Good.{IsGood}
use Rattle.bz_task.specs.Instant.{Instant}
use Rattle.bz_task.specs.Outcomes.{IsPath}
use Rattle.bz_task.specs.Scene.{Scene, IsScene, here}
use Rattle.bz_task.specs.declared.path.Link.{Link}
use Rattle.bz_task.specs.declared.path.Path.{Path}
use Rattle.bz_rounds.specs.FromAlone.Undisturbed.{IsUndisturbed}
use Rattle.bz_rounds.specs.FromAlone.AnyTask.{AnyTask}
use Rattle.bz_rounds.specs.FromAlone.Duties.{config_of, asks_of, facts_of, change_of, leaves_few_of}
use Rattle.bz_rounds.specs.FromAlone.Kinds as kinds
use Rattle.bz_rounds.specs.FromAlone.Kinds.{kind_of}
use Rattle.bz_rounds.specs.FromTally.Swaps.{IsOwnSwap}

-- where the key's leaf may be merged directly after the swap of a delete, the delete tells that it leaves little
abbrev pub DeletesTellOfMerges : Type 0
DeletesTellOfMerges =
    (t : AnyTask) (entries : List Entry) (s : Scene) (y : Instant) → IsOwnSwap (config_of t) (asks_of t) (facts_of t) entries s y → kind_of t ≡ kinds.Delete →
    MayBeMerged s.past.config y.image (change_of t).key → leaves_few_of t ≡ true

-- a leaf that may be merged is not the root: the tree is higher than a leaf
abbrev pub MergeableLeavesStandBelow : Type 0
MergeableLeavesStandBelow = (c : Config) (raw : ℕ → ℕ) (key : List ℕ) → IsTree (view_in c raw) → MayBeMerged c raw key → 1 < (view_in c raw).height

-- where one link leads to the leaf, and nobody's swap took effect since the look-up began, the tree is a leaf
abbrev pub UndisturbedRootLeavesAreTheTree : Type 0
UndisturbedRootLeavesAreTheTree =
    (key : List ℕ) (path : Path) (link : Link) (s : Scene) → IsScene s → IsUndisturbed 0 s.past → IsPath key path s.past → slice_get path.links (path.depth - 1) ≡ Some link → path.depth ≡ 1 →
    (view_in s.past.config (here s).image).height ≡ 1

-- two links or more lead to the leaf, and the task tells that it leaves little there
pub record TellsOfMerge (t : AnyTask) (path : Path) : Type 0 where
  pub deep : 2 ≤ path.depth
  pub few : leaves_few_of t ≡ true

-- so a delete does, by the path to its leaf, where that may be merged directly after its swap and nobody's took effect before it since the
-- look-up began
abbrev pub UndisturbedDeletesTellOfMerges : Type 0
UndisturbedDeletesTellOfMerges =
    (t : AnyTask) (path : Path) (link : Link) (entries : List Entry) (s : Scene) (y : Instant) → IsOwnSwap (config_of t) (asks_of t) (facts_of t) entries s y → kind_of t ≡ kinds.Delete →
    IsUndisturbed 0 s.past → IsPath (change_of t).key path s.past → slice_get path.links (path.depth - 1) ≡ Some link → IsGood s.past.config y → MayBeMerged s.past.config y.image (change_of t).key → TellsOfMerge t path
