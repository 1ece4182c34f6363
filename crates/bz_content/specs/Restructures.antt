-- Splits and merges of nodes of an image, told of words. All fresh slots were not reached before and break no
-- rule in their places; of the reached ones only those that go, and the one with the link, change.
use Rattle.std.specs.Prelude.{◌≡◌, ◌≢◌, ℕ, ◌+◌, ◌<◌, true, false, List, [], ◌∷◌, Option, Some, None}
use Rattle.bz_layout.specs.declared.config.Config.{Config}
use Rattle.bz_tree.specs.Form.{Holds}
use Rattle.bz_tree.specs.Order.{is_before}
use Rattle.bz_tree.specs.Slots.{Children, Wider, Halves, AreTwo}
use Rattle.bz_tree.specs.Split.{AreThree}
use Rattle.bz_slotted.specs.Readers.{level_of, count_of, child_of, key_of, found_of}
use Rattle.bz_slotted.specs.Rules.{node_fault}
use Rattle.bz_content.specs.Image.{Image, node, root}
use Rattle.bz_content.specs.Swaps.{form_in, TurnsLink}

-- the children of an inner node, as its words tell them
abbrev pub children_of : (ℕ → ℕ) → Children
children_of n = record { count = count_of n; child = child_of n; key = key_of n }

-- slot k breaks no rule at this level between these bounds
abbrev pub StandsWhole : Config → Image → ℕ → ℕ → Option (List ℕ) → Option (List ℕ) → Type 0
StandsWhole c y k l low high = node_fault c.nodes (node c y.raw k) (node c y.words k) l low high ≡ None

-- l and r say of a leaf's keys what the leaf a said, parted at sep
pub record SaysInHalves (c : Config) (x y : Image) (a l r : ℕ) (sep : List ℕ) : Type 0 where
  pub before : (key : List ℕ) → is_before key sep ≡ true → found_of (node c y.words l) key ≡ found_of (node c x.words a) key
  pub from : (key : List ℕ) → is_before key sep ≡ false → found_of (node c y.words r) key ≡ found_of (node c x.words a) key

-- slot a, a leaf or an inner node below an inner node, is split: the link to its parent goes to q, which has l and
-- r in place of a
pub record Splits (c : Config) (x y : Image) (a q l r m : ℕ) (sep : List ℕ) : Type 0 where
  pub inside : (form_in c x).inside a ≡ true
  pub not_top : a ≢ c.nodes
  pub deep : (form_in c x).up a ≢ c.nodes
  pub fresh_q : (form_in c x).inside q ≡ false
  pub fresh_l : (form_in c x).inside l ≡ false
  pub fresh_r : (form_in c x).inside r ≡ false
  pub three : AreThree q l r
  pub link : TurnsLink c x y ((form_in c x).up ((form_in c x).up a)) ((form_in c x).index ((form_in c x).up a)) q (a ∷ (form_in c x).up a ∷ [])
  pub wider : Wider (children_of (node c x.words ((form_in c x).up a))) (children_of (node c y.words q)) ((form_in c x).index a) l r sep
  pub halves : 0 < (form_in c x).level a → Halves (children_of (node c x.words a)) (children_of (node c y.words l)) (children_of (node c y.words r)) m sep
  pub says : (form_in c x).level a ≡ 0 → SaysInHalves c x y a l r sep
  pub whole_q : StandsWhole c y q ((form_in c x).level ((form_in c x).up a)) ((form_in c x).low ((form_in c x).up a)) ((form_in c x).high ((form_in c x).up a))
  pub whole_l : StandsWhole c y l ((form_in c x).level a) ((form_in c x).low a) (Some sep)
  pub whole_r : StandsWhole c y r ((form_in c x).level a) (Some sep) ((form_in c x).high a)

-- the root a is split: the root pointer goes to q, which has the children l and r
pub record SplitsRoot (c : Config) (x y : Image) (q l r m : ℕ) (sep : List ℕ) : Type 0 where
  pub fresh_q : (form_in c x).inside q ≡ false
  pub fresh_l : (form_in c x).inside l ≡ false
  pub fresh_r : (form_in c x).inside r ≡ false
  pub three : AreThree q l r
  pub link : TurnsLink c x y c.nodes 0 q (root x.words ∷ [])
  pub two : AreTwo (children_of (node c y.words q)) l r sep
  pub halves : 0 < level_of (node c x.words (root x.words)) →
      Halves (children_of (node c x.words (root x.words))) (children_of (node c y.words l)) (children_of (node c y.words r)) m sep
  pub says : level_of (node c x.words (root x.words)) ≡ 0 → SaysInHalves c x y (root x.words) l r sep
  pub whole_q : StandsWhole c y q (level_of (node c x.words (root x.words)) + 1) None None
  pub whole_l : StandsWhole c y l (level_of (node c x.words (root x.words))) None (Some sep)
  pub whole_r : StandsWhole c y r (level_of (node c x.words (root x.words))) (Some sep) None

-- the leaves a and b, neighbours below one inner node, are merged: the link to their parent goes to q, which has
-- the leaf m in place of both
pub record Merges (c : Config) (x y : Image) (a b q m : ℕ) (sep : List ℕ) : Type 0 where
  pub inside : (form_in c x).inside a ≡ true
  pub inside_b : (form_in c x).inside b ≡ true
  pub leaf : (form_in c x).level a ≡ 0
  pub same_up : (form_in c x).up b ≡ (form_in c x).up a
  pub next : (form_in c x).index b ≡ (form_in c x).index a + 1
  pub deep : (form_in c x).up a ≢ c.nodes
  pub fresh_q : (form_in c x).inside q ≡ false
  pub fresh_m : (form_in c x).inside m ≡ false
  pub two : q ≢ m
  pub link : TurnsLink c x y ((form_in c x).up ((form_in c x).up a)) ((form_in c x).index ((form_in c x).up a)) q (a ∷ b ∷ (form_in c x).up a ∷ [])
  pub child : child_of (node c y.words q) ((form_in c x).index a) ≡ m
  pub narrower : Wider (children_of (node c y.words q)) (children_of (node c x.words ((form_in c x).up a))) ((form_in c x).index a) a b sep
  pub says_a : (key : List ℕ) → Holds (form_in c x) key a → found_of (node c y.words m) key ≡ found_of (node c x.words a) key
  pub says_b : (key : List ℕ) → Holds (form_in c x) key b → found_of (node c y.words m) key ≡ found_of (node c x.words b) key
  pub whole_q : StandsWhole c y q ((form_in c x).level ((form_in c x).up a)) ((form_in c x).low ((form_in c x).up a)) ((form_in c x).high ((form_in c x).up a))
  pub whole_m : StandsWhole c y m 0 ((form_in c x).low a) ((form_in c x).high b)
