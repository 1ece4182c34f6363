-- What no fault means, as facts and for keys.
use Rattle.std.specs.Prelude.{◌≡◌, ◌≢◌, ◌↔◌, ℕ, ◌<◌, ◌≤◌, true, List, Option, None}
use Rattle.bz_layout.specs.declared.sizes.TheConstants.{SHARED_WORDS}
use Rattle.bz_tree.specs.Order.{is_before, is_above, is_below, is_within}
use Rattle.bz_slotted.specs.Page.{page}
use Rattle.bz_slotted.specs.Readers.{count_of, child_of, key_of, found_of, live_of}
use Rattle.bz_slotted.specs.Rules.{node_fault}
use Rattle.bz_slotted.specs.Whole.{Whole, WholeInner}

-- a leaf has no fault exactly where all the facts hold
abbrev pub LeafRulesAreFacts : Type 0
LeafRulesAreFacts = (nodes : ℕ) (raw n : ℕ → ℕ) (lo hi : Option (List ℕ)) → (node_fault nodes raw n 0 lo hi ≡ None) ↔ Whole raw (page n) lo hi

-- so with an inner node
abbrev pub InnerRulesAreFacts : Type 0
InnerRulesAreFacts = (nodes : ℕ) (raw n : ℕ → ℕ) (l : ℕ) (lo hi : Option (List ℕ)) → 0 < l → (node_fault nodes raw n l lo hi ≡ None) ↔ WholeInner nodes raw (page n) l lo hi

-- an inner node has children, each in a slot, and its keys rise between its bounds
pub record RisesBetween (nodes : ℕ) (n : ℕ → ℕ) (lo hi : Option (List ℕ)) : Type 0 where
  pub some : 0 < count_of n
  pub rise : (i j : ℕ) → 0 < i → i < j → j < count_of n → is_before (key_of n i) (key_of n j) ≡ true
  pub first : (i : ℕ) → 0 < i → i < count_of n → is_above (key_of n i) lo ≡ true
  pub last : (i : ℕ) → 0 < i → i < count_of n → is_below (key_of n i) hi ≡ true
  pub slots : (i : ℕ) → i < count_of n → child_of n i < nodes

abbrev pub InnerKeysRise : Type 0
InnerKeysRise = (nodes : ℕ) (raw n : ℕ → ℕ) (l : ℕ) (lo hi : Option (List ℕ)) → 0 < l → node_fault nodes raw n l lo hi ≡ None → RisesBetween nodes n lo hi

-- a leaf says something of keys in its range alone
abbrev pub FoundKeysAreInRange : Type 0
FoundKeysAreInRange = (nodes : ℕ) (raw n : ℕ → ℕ) (lo hi : Option (List ℕ)) (key : List ℕ) → node_fault nodes raw n 0 lo hi ≡ None → found_of n key ≢ None → is_within key lo hi ≡ true

-- the visible records of a leaf fit a node, with their metadata words
abbrev pub LiveWordsFit : Type 0
LiveWordsFit = (nodes : ℕ) (raw n : ℕ → ℕ) (lo hi : Option (List ℕ)) → node_fault nodes raw n 0 lo hi ≡ None → live_of n ≤ SHARED_WORDS
