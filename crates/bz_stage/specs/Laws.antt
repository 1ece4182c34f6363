-- The laws of stages: what they count, how great they are, and that each of a call's own swaps lowers that of its key.
use Rattle.std.specs.Prelude.{◌≡◌, ◌↔◌, ℕ, ◌+◌, ◌<◌, ◌≤◌, true, false, List}
use Rattle.bz_layout.specs.declared.config.Config.{Config}
use Rattle.bz_layout.specs.declared.sizes.TheConstants.{SHARED_WORDS}
use Rattle.bz_layout.specs.declared.thresholds.TheConstants.{LEAF_RECORD_WORDS, SPLIT_ABOVE, INNER_LIMIT, MAX_LEVELS}
use Rattle.bz_tree.specs.Descent.{leaf_of}
use Rattle.bz_tree.specs.View.{View}
use Rattle.bz_tree.specs.Walk.{IsTree, form}
use Rattle.bz_slotted.specs.Page.{Page}
use Rattle.bz_slotted.specs.Records.{live_words}
use Rattle.bz_content.specs.Image.{Image}
use Rattle.bz_content.specs.Restructures.{Splits, SplitsRoot}
use Rattle.bz_content.specs.Swaps.{Consolidates}
use Rattle.bz_content.specs.View.{view_of}
use Rattle.bz_leaves.specs.Neighbours.{leaf_page}
use Rattle.bz_stage.specs.Paths.{on_path, StandsOver}
use Rattle.bz_stage.specs.Rooms.{words_taken, is_crowded}
use Rattle.bz_stage.specs.Stages.{page_on_path, root_level, full_above, frozen_stage, stage_of, stage}
use Rattle.bz_stage.specs.Swaps.{FreezesLeaf, IsRoomyLeaf, IsRoomyInner, IsCrowdedBelow}

-- the stage of a leaf below so many full nodes, case by case
pub record StagesSay : Type 0 where
  pub ready : (p : Page) (full words : ℕ) → p.frozen ≡ false → words_taken p + words ≤ SHARED_WORDS → stage_of p full words ≡ 0
  pub lacking : (p : Page) (full words : ℕ) → p.frozen ≡ false → SHARED_WORDS < words_taken p + words → stage_of p full words ≡ 1 + frozen_stage p full
  pub copied : (p : Page) (full words : ℕ) → p.frozen ≡ true → live_words p ≤ SPLIT_ABOVE → stage_of p full words ≡ 1
  pub split : (p : Page) (full words : ℕ) → p.frozen ≡ true → SPLIT_ABOVE < live_words p → stage_of p full words ≡ 1 + full

-- so of a key in an image: a leaf that is not frozen and has no room is two rounds away from it at least, as it is frozen first; a frozen one is
-- one round away, and no more where it is copied
pub record LackingLeavesSay : Type 0 where
  pub thawed : (c : Config) (x : Image) (key : List ℕ) (words : ℕ) → (leaf_page c x key).frozen ≡ false → 0 < stage c x key words → 2 ≤ stage c x key words
  pub frozen : (c : Config) (x : Image) (key : List ℕ) (words : ℕ) → (leaf_page c x key).frozen ≡ true → 1 ≤ stage c x key words
  pub copied : (c : Config) (x : Image) (key : List ℕ) (words : ℕ) → (leaf_page c x key).frozen ≡ true → is_crowded (leaf_page c x key) ≡ false → stage c x key words ≡ 1

-- the slot on the way to a key is the one reached slot of its level in whose range the key is
abbrev pub PathsAreOfKeys : Type 0
PathsAreOfKeys = (v : View) (key : List ℕ) (level k : ℕ) → IsTree v → level ≤ v.height → StandsOver (form v) key level k ↔ (on_path v key level ≡ k)

-- the full nodes directly above a leaf are so many where the nodes of these levels have too many entries, and that of the next level has
-- not, or is none
abbrev pub FullNodesAreCounted : Type 0
FullNodesAreCounted =
    (c : Config) (x : Image) (key : List ℕ) (full : ℕ) → full ≤ root_level c x → ((i : ℕ) → 0 < i → i ≤ full → INNER_LIMIT < words_taken (page_on_path c x key i)) →
    (full < root_level c x → words_taken (page_on_path c x key (full + 1)) ≤ INNER_LIMIT) → full_above c x key ≡ full

-- a stage is at most two more than there are levels of inner nodes
pub record IsBounded (c : Config) (x : Image) (key : List ℕ) (words : ℕ) : Type 0 where
  pub stage : stage c x key words ≤ 2 + root_level c x
  pub levels : root_level c x < MAX_LEVELS

abbrev pub StagesAreBounded : Type 0
StagesAreBounded = (c : Config) (x : Image) (key : List ℕ) (words : ℕ) → IsTree (view_of c x) → IsBounded c x key words

-- a freeze of a leaf that lacks the words lowers the stage by one
abbrev pub FreezesLowerTheStage : Type 0
FreezesLowerTheStage =
    (c : Config) (x y : Image) (key : List ℕ) (words : ℕ) → IsTree (view_of c x) → FreezesLeaf c x y (leaf_of (view_of c x) key) → SHARED_WORDS < words_taken (leaf_page c x key) + words →
    stage c y key words + 1 ≡ stage c x key words

-- a copy has room for any record, and one word more
abbrev pub CopiesGiveRoom : Type 0
CopiesGiveRoom =
    (c : Config) (x y : Image) (key : List ℕ) (words new : ℕ) → IsTree (view_of c x) → Consolidates c x y (leaf_of (view_of c x) key) new → IsRoomyLeaf c y new → words ≤ LEAF_RECORD_WORDS + 1 →
    stage c y key words ≡ 0

-- so have the halves of a leaf that is split below an inner node
abbrev pub LeafSplitsGiveRoom : Type 0
LeafSplitsGiveRoom =
    (c : Config) (x y : Image) (key : List ℕ) (words q l r m : ℕ) (sep : List ℕ) → IsTree (view_of c x) → Splits c x y (leaf_of (view_of c x) key) q l r m sep →
    IsRoomyLeaf c y l → IsRoomyLeaf c y r → words ≤ LEAF_RECORD_WORDS + 1 → stage c y key words ≡ 0

-- and those of a root that is a leaf
abbrev pub RootLeafSplitsGiveRoom : Type 0
RootLeafSplitsGiveRoom =
    (c : Config) (x y : Image) (key : List ℕ) (words q l r m : ℕ) (sep : List ℕ) → IsTree (view_of c x) → root_level c x ≡ 0 → SplitsRoot c x y q l r m sep →
    IsRoomyLeaf c y l → IsRoomyLeaf c y r → words ≤ LEAF_RECORD_WORDS + 1 → stage c y key words ≡ 0

-- below a leaf's full nodes the split of one of them, whichever it is, lowers the stage
abbrev pub InnerSplitsLowerTheStage : Type 0
InnerSplitsLowerTheStage =
    (c : Config) (x y : Image) (key : List ℕ) (words level q l r m : ℕ) (sep : List ℕ) → IsTree (view_of c x) → 0 < level → IsCrowdedBelow c x key level →
    Splits c x y (on_path (view_of c x) key level) q l r m sep → IsRoomyInner c y l → IsRoomyInner c y r → stage c y key words + 1 ≤ stage c x key words

-- so does the split of the root, where all of them are full
abbrev pub RootSplitsLowerTheStage : Type 0
RootSplitsLowerTheStage =
    (c : Config) (x y : Image) (key : List ℕ) (words q l r m : ℕ) (sep : List ℕ) → IsTree (view_of c x) → 0 < root_level c x → IsCrowdedBelow c x key (root_level c x) →
    SplitsRoot c x y q l r m sep → IsRoomyInner c y l → IsRoomyInner c y r → stage c y key words + 1 ≤ stage c x key words

-- the stage is at most this level, and a tree may have a node one level higher
pub record LeavesALevel (c : Config) (y : Image) (key : List ℕ) (words level : ℕ) : Type 0 where
  pub stage_within : stage c y key words ≤ level
  pub one_higher : level + 2 ≤ MAX_LEVELS

-- so it is after either, of the level of the node that was split
pub record SplitsLeaveALevel : Type 0 where
  pub inner : (c : Config) (x y : Image) (key : List ℕ) (words level q l r m : ℕ) (sep : List ℕ) → IsTree (view_of c x) → 0 < level → IsCrowdedBelow c x key level →
      Splits c x y (on_path (view_of c x) key level) q l r m sep → IsRoomyInner c y l → IsRoomyInner c y r → LeavesALevel c y key words level
  pub root : (c : Config) (x y : Image) (key : List ℕ) (words q l r m : ℕ) (sep : List ℕ) → IsTree (view_of c x) → 0 < root_level c x → IsCrowdedBelow c x key (root_level c x) →
      SplitsRoot c x y q l r m sep → IsRoomyInner c y l → IsRoomyInner c y r → LeavesALevel c y key words (root_level c x)
