-- What a call's own swaps make of the leaf of its key and of the nodes above it, beside what bz_content says of each kind of them.
use Rattle.std.specs.Prelude.{◌≡◌, ℕ, ◌<◌, ◌≤◌, true, false, List}
use Rattle.bz_layout.specs.declared.config.Config.{Config}
use Rattle.bz_layout.specs.declared.thresholds.TheConstants.{SPLIT_ABOVE, INNER_LIMIT}
use Rattle.bz_slotted.specs.Changes.{Restamps}
use Rattle.bz_slotted.specs.Page.{Page, page}
use Rattle.bz_slotted.specs.Records.{live_words}
use Rattle.bz_content.specs.Image.{Image, node}
use Rattle.bz_content.specs.Swaps.{OnLeaf}
use Rattle.bz_leaves.specs.Neighbours.{leaf_page}
use Rattle.bz_stage.specs.Rooms.{words_taken}
use Rattle.bz_stage.specs.Stages.{page_on_path}

-- the leaf k, which was not frozen, is; of its words the status alone changed
pub record FreezesLeaf (c : Config) (x y : Image) (k : ℕ) : Type 0 where
  pub on_leaf : OnLeaf c x y k
  pub restamps : Restamps (node c x.raw k) (node c y.raw k) (node c x.words k) (node c y.words k)
  pub thawed : (page (node c x.words k)).frozen ≡ false
  pub frozen : (page (node c y.words k)).frozen ≡ true

-- a leaf that is not frozen, and has taken no more words than a leaf may keep
pub record IsRoomy (p : Page) : Type 0 where
  pub thawed : p.frozen ≡ false
  pub few : words_taken p ≤ SPLIT_ABOVE

-- slot k is one
abbrev pub IsRoomyLeaf : Config → Image → ℕ → Type 0
IsRoomyLeaf c y k = IsRoomy (page (node c y.words k))

-- slot k is an inner node that takes one more separator of any length
abbrev pub IsRoomyInner : Config → Image → ℕ → Type 0
IsRoomyInner c y k = words_taken (page (node c y.words k)) ≤ INNER_LIMIT

-- the key's leaf is frozen and has to be split; and the nodes above it, up to this level, have more entries than an inner node may keep
pub record IsCrowdedBelow (c : Config) (x : Image) (key : List ℕ) (level : ℕ) : Type 0 where
  pub frozen : (leaf_page c x key).frozen ≡ true
  pub many : SPLIT_ABOVE < live_words (leaf_page c x key)
  pub full : (i : ℕ) → 0 < i → i ≤ level → INNER_LIMIT < words_taken (page_on_path c x key i)
