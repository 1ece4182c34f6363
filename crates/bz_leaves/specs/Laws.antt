-- What each kind of swap makes of the number of leaves: the split of a leaf adds one, a merge takes one away, and no other changes it.
use Rattle.std.specs.Prelude.{◌≡◌, ◌≢◌, ℕ, ◌+◌, ◌<◌, ◌≤◌, true, List}
use Rattle.bz_layout.specs.declared.config.Config.{Config}
use Rattle.bz_tree.specs.Descent.{leaf_of}
use Rattle.bz_tree.specs.Outcomes.{SameTree}
use Rattle.bz_tree.specs.Walk.{IsTree}
use Rattle.bz_slotted.specs.Changes.{Rewrites}
use Rattle.bz_slotted.specs.Readers.{level_of}
use Rattle.bz_word.specs.declared.meta.Meta.{Meta}
use Rattle.bz_content.specs.Changes.{SameNode, SameRoot}
use Rattle.bz_content.specs.Image.{Image, node, root}
use Rattle.bz_content.specs.Restructures.{Splits, SplitsRoot, Merges}
use Rattle.bz_content.specs.Swaps.{form_in, OnLeaf, IsQuietChange, Consolidates}
use Rattle.bz_content.specs.View.{view_of}
use Rattle.bz_leaves.specs.Leaves.{is_leaf, leaf_count}

-- the number is the same
abbrev pub AsManyLeaves : Config → Image → Image → Type 0
AsManyLeaves c x y = leaf_count c y ≡ leaf_count c x

-- it is one more, or one less
abbrev pub OneLeafMore : Config → Image → Image → Type 0
OneLeafMore c x y = leaf_count c y ≡ leaf_count c x + 1

abbrev pub OneLeafLess : Config → Image → Image → Type 0
OneLeafLess c x y = leaf_count c y + 1 ≡ leaf_count c x

-- the leaf of each key is counted, and no more leaves than there are slots
pub record LeavesAreCounted : Type 0 where
  pub of_key : (c : Config) (x : Image) (key : List ℕ) → IsTree (view_of c x) → is_leaf (view_of c x) (leaf_of (view_of c x) key) ≡ true
  pub some : (c : Config) (x : Image) → IsTree (view_of c x) → 0 < leaf_count c x
  pub few : (c : Config) (x : Image) → leaf_count c x ≤ c.nodes

-- where the tree is the same, so is the number
abbrev pub SameTreesHaveAsManyLeaves : Type 0
SameTreesHaveAsManyLeaves = (c : Config) (x y : Image) → SameTree (view_of c x) (view_of c y) → AsManyLeaves c x y

-- neither the root nor an inner node is another, nor does a leaf say another level: words of leaves alone may be others
pub record OnLeaves (c : Config) (x y : Image) : Type 0 where
  pub root : SameRoot x y
  pub inners : (k : ℕ) → (form_in c x).inside k ≡ true → 0 < (form_in c x).level k → k ≢ c.nodes → SameNode c x y k
  pub leaves : (k : ℕ) → (form_in c x).inside k ≡ true → (form_in c x).level k ≡ 0 → level_of (node c y.words k) ≡ level_of (node c x.words k)

-- then each slot is in the tree that was, and stands where it stood, the tree is as high as it was, and the number is the same
pub record KeepsSlots (c : Config) (x y : Image) : Type 0 where
  pub leaves : AsManyLeaves c x y
  pub inside : (k : ℕ) → (form_in c y).inside k ≡ (form_in c x).inside k
  pub form : form_in c y ≡ form_in c x
  pub height : (view_of c y).height ≡ (view_of c x).height

-- whatever the leaves say
abbrev pub WordsOfLeavesDoNotCount : Type 0
WordsOfLeavesDoNotCount = (c : Config) (x y : Image) → IsTree (view_of c x) → OnLeaves c x y → KeepsSlots c x y

-- a reservation, the first swap of an update, a freeze and private stores leave it
abbrev pub QuietSwapsKeepTheLeaves : Type 0
QuietSwapsKeepTheLeaves =
    (c : Config) (x y : Image) (k : ℕ) → IsTree (view_of c x) → OnLeaf c x y k → IsQuietChange (node c x.raw k) (node c y.raw k) (node c x.words k) (node c y.words k) → AsManyLeaves c x y

-- so do a publication, a delete and the second swap of an update
abbrev pub RewritesKeepTheLeaves : Type 0
RewritesKeepTheLeaves =
    (c : Config) (x y : Image) (k j : ℕ) (mt : Meta) → IsTree (view_of c x) → OnLeaf c x y k →
    Rewrites (node c x.raw k) (node c y.raw k) (node c x.words k) (node c y.words k) ((form_in c x).low k) ((form_in c x).high k) j mt → AsManyLeaves c x y

-- and a consolidation
abbrev pub ConsolidationsKeepTheLeaves : Type 0
ConsolidationsKeepTheLeaves = (c : Config) (x y : Image) (old new : ℕ) → IsTree (view_of c x) → Consolidates c x y old new → AsManyLeaves c x y

-- the split of a leaf adds one, that of an inner node none
pub record SplitsAddLeaves (c : Config) (x y : Image) (level : ℕ) : Type 0 where
  pub leaf : level ≡ 0 → OneLeafMore c x y
  pub inner : 0 < level → AsManyLeaves c x y

-- below an inner node
abbrev pub LeafSplitsAddOne : Type 0
LeafSplitsAddOne =
    (c : Config) (x y : Image) (a q l r m : ℕ) (sep : List ℕ) → IsTree (view_of c x) → Splits c x y a q l r m sep → SplitsAddLeaves c x y ((form_in c x).level a)

-- and at the root
abbrev pub RootLeafSplitsAddOne : Type 0
RootLeafSplitsAddOne =
    (c : Config) (x y : Image) (q l r m : ℕ) (sep : List ℕ) → IsTree (view_of c x) → SplitsRoot c x y q l r m sep → SplitsAddLeaves c x y (level_of (node c x.words (root x.words)))

-- a merge takes one away
abbrev pub MergesTakeOne : Type 0
MergesTakeOne = (c : Config) (x y : Image) (a b q m : ℕ) (sep : List ℕ) → IsTree (view_of c x) → Merges c x y a b q m sep → OneLeafLess c x y
