-- What a swap that is made for one key leaves of another: the other key's leaf stays, where it is another slot; and a merge of both
-- keys' leaves gives both room.
use Rattle.std.specs.Prelude.{◌≡◌, ◌≢◌, ◌⊎◌, ℕ, ◌+◌, ◌<◌, ◌≤◌, false, List}
use Rattle.bz_layout.specs.declared.config.Config.{Config}
use Rattle.bz_layout.specs.declared.thresholds.TheConstants.{LEAF_RECORD_WORDS}
use Rattle.bz_tree.specs.Descent.{leaf_of}
use Rattle.bz_tree.specs.Outcomes.{Regrows}
use Rattle.bz_tree.specs.Walk.{is_among, IsTree}
use Rattle.bz_content.specs.Image.{Image, node}
use Rattle.bz_content.specs.Restructures.{Splits, SplitsRoot, Merges}
use Rattle.bz_content.specs.Swaps.{form_in, TurnsLink, Consolidates}
use Rattle.bz_content.specs.View.{view_of}
use Rattle.bz_leaves.specs.Neighbours.{leaf_page}
use Rattle.bz_stage.specs.Stages.{root_level, stage}
use Rattle.bz_stage.specs.Swaps.{FreezesLeaf, IsRoomyLeaf}

-- the key's leaf is in the same slot, with the same words
pub record LeafStays (c : Config) (x y : Image) (key : List ℕ) : Type 0 where
  pub slot : leaf_of (view_of c y) key ≡ leaf_of (view_of c x) key
  pub words : node c y.words (leaf_of (view_of c x) key) ≡ node c x.words (leaf_of (view_of c x) key)
  pub page : leaf_page c y key ≡ leaf_page c x key

-- so it is where a swap turns a link, with each key whose leaf does not go
abbrev pub LinksLeaveOtherLeaves : Type 0
LinksLeaveOtherLeaves =
    (c : Config) (x y : Image) (p i to : ℕ) (gone new : List ℕ) (key : List ℕ) → IsTree (view_of c x) → TurnsLink c x y p i to gone → Regrows (view_of c x) (view_of c y) gone new →
    is_among gone (leaf_of (view_of c x) key) ≡ false → LeafStays c x y key

-- by the kinds of swaps: of a freeze, a copy, a split and a merge each key with another leaf; of the split of an inner node every key
pub record OthersStay : Type 0 where
  pub freeze : (c : Config) (x y : Image) (key : List ℕ) (k : ℕ) → IsTree (view_of c x) → FreezesLeaf c x y k → leaf_of (view_of c x) key ≢ k → LeafStays c x y key
  pub copy : (c : Config) (x y : Image) (key : List ℕ) (old new : ℕ) → IsTree (view_of c x) → Consolidates c x y old new → leaf_of (view_of c x) key ≢ old → LeafStays c x y key
  pub split : (c : Config) (x y : Image) (key : List ℕ) (a q l r m : ℕ) (sep : List ℕ) → IsTree (view_of c x) → Splits c x y a q l r m sep → leaf_of (view_of c x) key ≢ a → LeafStays c x y key
  pub inner_split : (c : Config) (x y : Image) (key : List ℕ) (a q l r m : ℕ) (sep : List ℕ) → IsTree (view_of c x) → Splits c x y a q l r m sep → 0 < (form_in c x).level a → LeafStays c x y key
  pub root_split : (c : Config) (x y : Image) (key : List ℕ) (q l r m : ℕ) (sep : List ℕ) → IsTree (view_of c x) → SplitsRoot c x y q l r m sep → 0 < root_level c x → LeafStays c x y key
  pub merge : (c : Config) (x y : Image) (key : List ℕ) (a b q m : ℕ) (sep : List ℕ) → IsTree (view_of c x) → Merges c x y a b q m sep → leaf_of (view_of c x) key ≢ a → leaf_of (view_of c x) key ≢ b →
      LeafStays c x y key

-- a key that has room keeps it while its leaf stays
abbrev pub RoomStays : Type 0
RoomStays = (c : Config) (x y : Image) (key : List ℕ) (words : ℕ) → LeafStays c x y key → stage c x key words ≡ 0 → stage c y key words ≡ 0

-- two leaves made one give room to the keys of both
abbrev pub MergesGiveRoom : Type 0
MergesGiveRoom =
    (c : Config) (x y : Image) (key : List ℕ) (words a b q m : ℕ) (sep : List ℕ) → IsTree (view_of c x) → Merges c x y a b q m sep → (leaf_of (view_of c x) key ≡ a) ⊎ (leaf_of (view_of c x) key ≡ b) →
    IsRoomyLeaf c y m → words ≤ LEAF_RECORD_WORDS + 1 → stage c y key words ≡ 0
