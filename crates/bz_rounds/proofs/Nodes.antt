-- A full node above the key's leaf that a swap splits, below a parent and at the root.
use Rattle.std.proofs.Common.{◌≡◌, ℕ, ◌<◌, List}
use Rattle.bz_layout.specs.declared.config.Config.{Config}
use Rattle.bz_tree.specs.Walk.{IsTree}
use Rattle.bz_content.specs.Image.{Image}
use Rattle.bz_content.specs.Restructures.{Splits, SplitsRoot}
use Rattle.bz_content.specs.View.{view_of}
use Rattle.bz_stage.specs.Paths.{on_path}
use Rattle.bz_stage.specs.Stages.{root_level}
use Rattle.bz_stage.specs.Swaps.{IsCrowdedBelow, IsRoomyInner}

-- the node of this level
pub record SplitsNode (c : Config) (x y : Image) (key : List ℕ) (level : ℕ) : Type 0 where
  pub tree : IsTree (view_of c x)
  pub some : 0 < level
  pub crowded : IsCrowdedBelow c x key level
  pub above : ℕ
  pub left : ℕ
  pub right : ℕ
  pub cut : ℕ
  pub separator : List ℕ
  pub splits : Splits c x y (on_path (view_of c x) key level) above left right cut separator
  pub left_roomy : IsRoomyInner c y left
  pub right_roomy : IsRoomyInner c y right

-- the root, at this level
pub record SplitsTop (c : Config) (x y : Image) (key : List ℕ) (level : ℕ) : Type 0 where
  pub at_level : level ≡ root_level c x
  pub tree : IsTree (view_of c x)
  pub some : 0 < root_level c x
  pub crowded : IsCrowdedBelow c x key (root_level c x)
  pub above : ℕ
  pub left : ℕ
  pub right : ℕ
  pub cut : ℕ
  pub separator : List ℕ
  pub splits : SplitsRoot c x y above left right cut separator
  pub left_roomy : IsRoomyInner c y left
  pub right_roomy : IsRoomyInner c y right
