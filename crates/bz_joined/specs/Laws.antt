-- What a merge makes of the stage of a key: the freeze of one of its two leaves, and the swap that puts one leaf in the place of both. Told
-- of images.
use Rattle.std.specs.Prelude.{◌≡◌, ◌≢◌, ℕ, ◌+◌, ◌≤◌, ◌⊎◌, true, List}
use Rattle.bz_layout.specs.declared.config.Config.{Config}
use Rattle.bz_layout.specs.declared.thresholds.TheConstants.{LEAF_RECORD_WORDS, SPLIT_ABOVE}
use Rattle.bz_tree.specs.Descent.{leaf_of}
use Rattle.bz_tree.specs.Walk.{IsTree}
use Rattle.bz_slotted.specs.Records.{live_words}
use Rattle.bz_content.specs.Image.{Image}
use Rattle.bz_content.specs.Restructures.{Merges}
use Rattle.bz_content.specs.View.{view_of}
use Rattle.bz_stage.specs.FromLeaves.Neighbours.{leaf_page}
use Rattle.bz_stage.specs.Stages.{stage}
use Rattle.bz_stage.specs.Swaps.{FreezesLeaf, IsRoomyLeaf}

-- the freeze of another leaf than the key's leaves the stage
abbrev pub FreezesBesideKeepTheStage : Type 0
FreezesBesideKeepTheStage =
    (c : Config) (x y : Image) (key : List ℕ) (words k : ℕ) → IsTree (view_of c x) → FreezesLeaf c x y k → k ≢ leaf_of (view_of c x) key → stage c y key words ≡ stage c x key words

-- and that leaf as it is
abbrev pub FreezesBesideKeepTheLeaf : Type 0
FreezesBesideKeepTheLeaf = (c : Config) (x y : Image) (key : List ℕ) (k : ℕ) → IsTree (view_of c x) → FreezesLeaf c x y k → k ≢ leaf_of (view_of c x) key → leaf_page c y key ≡ leaf_page c x key

-- that of the key's leaf leaves it frozen
abbrev pub FrozenLeavesAreTheKeys : Type 0
FrozenLeavesAreTheKeys = (c : Config) (x y : Image) (key : List ℕ) → IsTree (view_of c x) → FreezesLeaf c x y (leaf_of (view_of c x) key) → (leaf_page c y key).frozen ≡ true

-- that of the key's leaf, where it has no more live words than it may keep, leaves it one copy away from room
abbrev pub SmallFreezesLeaveACopy : Type 0
SmallFreezesLeaveACopy =
    (c : Config) (x y : Image) (key : List ℕ) (words : ℕ) → IsTree (view_of c x) → FreezesLeaf c x y (leaf_of (view_of c x) key) → live_words (leaf_page c x key) ≤ SPLIT_ABOVE →
    stage c y key words ≡ 1

-- the merged leaf has room for any record, and one word more, of the keys of both leaves
abbrev pub MergesGiveRoom : Type 0
MergesGiveRoom =
    (c : Config) (x y : Image) (key : List ℕ) (words a b q m : ℕ) (sep : List ℕ) → IsTree (view_of c x) → Merges c x y a b q m sep → (leaf_of (view_of c x) key ≡ a) ⊎ (leaf_of (view_of c x) key ≡ b) →
    IsRoomyLeaf c y m → words ≤ LEAF_RECORD_WORDS + 1 → stage c y key words ≡ 0
