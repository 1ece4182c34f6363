-- A swap on two leaves of an image, and what is said of each key after it.
use Rattle.std.specs.Prelude.{◌≡◌, ◌≢◌, ℕ, ◌+◌, ◌&&◌, nat_le, nat_lt, if◌then◌else◌, Bool, true, false, List, Some, None}
use Rattle.bz_layout.specs.Addresses.{node_address}
use Rattle.bz_layout.specs.declared.config.Config.{Config}
use Rattle.bz_layout.specs.declared.sizes.TheConstants.{NODE_WORDS}
use Rattle.bz_tree.specs.Descent.{leaf_of, content}
use Rattle.bz_tree.specs.Outcomes.{SameTree}
use Rattle.bz_tree.specs.Walk.{IsTree}
use Rattle.bz_word.specs.declared.meta.Meta.{Meta}
use Rattle.bz_slotted.specs.Changes.{Rewrites}
use Rattle.bz_slotted.specs.Page.{visible, extent_of, page}
use Rattle.bz_slotted.specs.Readers.{found_of}
use Rattle.bz_slotted.specs.Records.{key_in, payload_in, key_at}
use Rattle.bz_content.specs.Changes.{SameNode, SameRoot}
use Rattle.bz_content.specs.Image.{Image, node}
use Rattle.bz_content.specs.Swaps.{form_in, OnLeaf, StaysWhole}
use Rattle.bz_content.specs.View.{view_of}
use Rattle.bz_moved.specs.OneLeaf.{Trades}

-- slot k is a leaf that is reached
pub record IsLeafIn (c : Config) (x : Image) (k : ℕ) : Type 0 where
  pub inside : (form_in c x).inside k ≡ true
  pub leaf : (form_in c x).level k ≡ 0

-- of the reached slots the leaves a and b alone change; they may be one
pub record OnLeaves (c : Config) (x y : Image) (a b : ℕ) : Type 0 where
  pub first : IsLeafIn c x a
  pub second : IsLeafIn c x b
  pub root : SameRoot x y
  pub others : (j : ℕ) → (form_in c x).inside j ≡ true → j ≢ c.nodes → j ≢ a → j ≢ b → SameNode c x y j

-- the address is one of slot k
abbrev pub is_in_slot : Config → ℕ → ℕ → Bool
is_in_slot c k a = nat_le (node_address c k) a && nat_lt a (node_address c k + NODE_WORDS)

-- the image that never stood: slot k as it is in y, and everything else as it is in x
abbrev pub between : Config → Image → Image → ℕ → Image
between c x y k = record {
  raw = λ a. if is_in_slot c k a then y.raw a else x.raw a;
  words = λ a. if is_in_slot c k a then y.words a else x.words a;
}

-- through it a swap on two leaves is two swaps on one leaf
pub record TwoLeafSwaps (c : Config) (x y : Image) (a b : ℕ) : Type 0 where
  pub first : OnLeaf c x (between c x y a) a
  pub whole : StaysWhole c x (between c x y a) a
  pub second : OnLeaf c (between c x y a) y b
  pub whole_too : StaysWhole c (between c x y a) y b

abbrev pub PairsAreTwoLeafSwaps : Type 0
PairsAreTwoLeafSwaps =
    (c : Config) (x y : Image) (a b : ℕ) → IsTree (view_of c x) → OnLeaves c x y a b → a ≢ b → StaysWhole c x y a → StaysWhole c x y b →
    TwoLeafSwaps c x y a b

-- the tree is the same, and keys of the two leaves alone are answered otherwise
pub record PairKept (c : Config) (x y : Image) (a b : ℕ) : Type 0 where
  pub tree : SameTree (view_of c x) (view_of c y)
  pub first : (key : List ℕ) → leaf_of (view_of c x) key ≡ a → content (view_of c y) key ≡ found_of (node c y.words a) key
  pub second : (key : List ℕ) → leaf_of (view_of c x) key ≡ b → content (view_of c y) key ≡ found_of (node c y.words b) key
  pub other : (key : List ℕ) → leaf_of (view_of c x) key ≢ a → leaf_of (view_of c x) key ≢ b → content (view_of c y) key ≡ content (view_of c x) key

abbrev pub PairSwapsKeepTheTree : Type 0
PairSwapsKeepTheTree =
    (c : Config) (x y : Image) (a b : ℕ) → IsTree (view_of c x) → OnLeaves c x y a b → StaysWhole c x y a → StaysWhole c x y b → PairKept c x y a b

-- one key is gone, another one, which is not the same, has a payload, and no other key is answered otherwise
pub record Moved (c : Config) (x y : Image) (old new payload : List ℕ) : Type 0 where
  pub tree : SameTree (view_of c x) (view_of c y)
  pub differ : old ≢ new
  pub gone : content (view_of c y) old ≡ None
  pub came : content (view_of c y) new ≡ Some payload
  pub other : (key : List ℕ) → old ≢ key → new ≢ key → content (view_of c y) key ≡ content (view_of c x) key

-- in one leaf: record i goes, and record j becomes visible
abbrev pub TradesMoveARecord : Type 0
TradesMoveARecord =
    (c : Config) (x y : Image) (k i j : ℕ) (gone come : Meta) → IsTree (view_of c x) → OnLeaf c x y k →
    Trades (node c x.raw k) (node c y.raw k) (node c x.words k) (node c y.words k) ((form_in c x).low k) ((form_in c x).high k) i j gone come →
    Moved c x y (key_at (page (node c x.words k)) i) (key_in (node c x.words k) (extent_of come)) (payload_in (node c x.words k) (extent_of come))

-- in two: record i of the leaf a goes, and record j of the leaf b becomes visible
pub record RewritesTwo (c : Config) (x y : Image) (a b i j : ℕ) (gone come : Meta) : Type 0 where
  pub goes : Rewrites (node c x.raw a) (node c y.raw a) (node c x.words a) (node c y.words a) ((form_in c x).low a) ((form_in c x).high a) i gone
  pub was : visible ((page (node c x.words a)).meta i) ≡ true
  pub hidden : visible gone ≡ false
  pub comes : Rewrites (node c x.raw b) (node c y.raw b) (node c x.words b) (node c y.words b) ((form_in c x).low b) ((form_in c x).high b) j come
  pub fresh : visible ((page (node c x.words b)).meta j) ≡ false
  pub shows : visible come ≡ true

abbrev pub PairsMoveARecord : Type 0
PairsMoveARecord =
    (c : Config) (x y : Image) (a b i j : ℕ) (gone come : Meta) → IsTree (view_of c x) → OnLeaves c x y a b → a ≢ b → RewritesTwo c x y a b i j gone come →
    Moved c x y (key_at (page (node c x.words a)) i) (key_in (node c x.words b) (extent_of come)) (payload_in (node c x.words b) (extent_of come))
