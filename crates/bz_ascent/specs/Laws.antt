-- What is known of the nodes on the way up.
use Rattle.std.specs.Prelude.{◌≡◌, ℕ, ◌+◌, ◌≤◌, true, List}
use Rattle.bz_layout.specs.declared.thresholds.TheConstants.{MAX_LEVELS}
use Rattle.bz_word.specs.Statuses.{status}
use Rattle.bz_task.specs.Instant.{form_at, is_inside}
use Rattle.bz_task.specs.Outcomes.{IsPath, IsView}
use Rattle.bz_task.specs.Scene.{Past, Scene, Continues, IsScene}
use Rattle.bz_task.specs.declared.path.Path.{Path}
use Rattle.bz_task.specs.declared.view.LeafView.{LeafView}
use Rattle.bz_branch.specs.FromRenew.Due.{LeadsTo}
use Rattle.bz_branch.specs.FromBelow.Facts.{LackedRoom}
use Rattle.bz_ascent.specs.Ascents.{IsAscent, IsAtLeaf, IsOneUp}
use Rattle.bz_ascent.specs.Full.{AreAllFull}
use Rattle.bz_ascent.specs.declared.ascent.Ascent.{Ascent}

abbrev pub AscentsStay : Type 0
AscentsStay = (a : Ascent) (p q : Past) → IsAscent a p → Continues p q → IsAscent a q

-- at a frozen leaf that was viewed, to which the path leads
abbrev pub AscentsBegin : Type 0
AscentsBegin =
    (a : Ascent) (key : List ℕ) (path : Path) (view : LeafView) (s : Scene) → IsAtLeaf a key path → IsScene s → IsPath key path s.past → IsView key view s.past → (status view.status).frozen ≡ true →
    LeadsTo path view.slot → IsAscent a s.past

-- the node above lacked the room for a separator
abbrev pub AscentsRise : Type 0
AscentsRise = (a next : Ascent) (s : Scene) (sep : List ℕ) → IsOneUp a next → IsScene s → IsAscent a s.past → LackedRoom next.node a.node sep s.past → IsAscent next s.past

-- the node was in the tree at the greatest level
abbrev pub AscentsEnd : Type 0
AscentsEnd =
    (a : Ascent) (s : Scene) (m : ℕ) → IsScene s → IsAscent a s.past → s.past.since ≤ m → m ≤ s.past.now → is_inside s.past.config (s.past.at m) a.node.slot ≡ true →
    MAX_LEVELS ≤ (form_at s.past.config (s.past.at m)).level a.node.slot + 1 → AreAllFull a.key s.past
