-- Swaps on an image, told of words. Slots are as the form of the image before has them; the superblock is the
-- slot after the last one.
use Rattle.std.specs.Prelude.{◌≡◌, ◌≢◌, ℕ, ◌+◌, ◌^◌, ◌<◌, ◌⊎◌, true, false, List, [], ◌∷◌, None}
use Rattle.bz_layout.specs.declared.config.Config.{Config}
use Rattle.bz_layout.specs.declared.sizes.TheConstants.{ROOT_AT, ROOT_STATUS_AT}
use Rattle.bz_tree.specs.Form.{Form}
use Rattle.bz_tree.specs.Walk.{is_among, form}
use Rattle.bz_slotted.specs.Changes.{Reserves, Grows, Restamps, StoresBeside}
use Rattle.bz_slotted.specs.InnerChanges.{PointerSwap}
use Rattle.bz_slotted.specs.Readers.{found_of}
use Rattle.bz_slotted.specs.Rules.{node_fault}
use Rattle.bz_word.specs.declared.meta.Meta.{Meta}
use Rattle.bz_content.specs.Changes.{SameNode, SameRoot}
use Rattle.bz_content.specs.Image.{Image, node}
use Rattle.bz_content.specs.View.{view_of}

-- the form of an image
abbrev pub form_in : Config → Image → Form
form_in c x = form (view_of c x)

-- of the reached slots a leaf k alone changes
pub record OnLeaf (c : Config) (x y : Image) (k : ℕ) : Type 0 where
  pub inside : (form_in c x).inside k ≡ true
  pub leaf : (form_in c x).level k ≡ 0
  pub root : SameRoot x y
  pub others : (j : ℕ) → (form_in c x).inside j ≡ true → j ≢ c.nodes → j ≢ k → SameNode c x y j

-- the leaf k still breaks no rule
abbrev pub StaysWhole : Config → Image → Image → ℕ → Type 0
StaysWhole c x y k = node_fault c.nodes (node c y.raw k) (node c y.words k) 0 ((form_in c x).low k) ((form_in c x).high k) ≡ None

-- a reservation, the first swap of an update, a freeze, or private stores into the block: the leaf's words
-- before and after, as they stand and resolved
abbrev pub IsQuietChange : (r s n m : ℕ → ℕ) → Type 0
IsQuietChange r s n m = ((mt : Meta) × Reserves r s n m mt) ⊎ (((words : ℕ) × Grows r s n m words) ⊎ (Restamps r s n m ⊎ StoresBeside r s n m))

-- the root pointer goes to a slot, and of the root status nothing but the stamp is set
pub record TurnsRoot (c : Config) (y : Image) (to : ℕ) : Type 0 where
  pub pointer : y.words ROOT_AT ≡ to + 1
  pub slot : to < c.nodes
  pub status : y.words ROOT_STATUS_AT < 2 ^ 32

-- child i of the inner slot p goes to `to`
abbrev pub TurnsChild : Config → Image → Image → ℕ → ℕ → ℕ → Type 0
TurnsChild c x y p i to = PointerSwap c.nodes (node c x.raw p) (node c y.raw p) (node c x.words p) (node c y.words p) i to

-- a swap of one link: child i of slot p goes to `to`, and of the reached slots only p and those that go change
pub record TurnsLink (c : Config) (x y : Image) (p i to : ℕ) (gone : List ℕ) : Type 0 where
  pub inside : (form_in c x).inside p ≡ true
  pub inner : 0 < (form_in c x).level p
  pub first : p ≡ c.nodes → i ≡ 0
  pub at_root : p ≡ c.nodes → TurnsRoot c y to
  pub below_root : p ≢ c.nodes → TurnsChild c x y p i to × SameRoot x y
  pub others : (j : ℕ) → (form_in c x).inside j ≡ true → j ≢ c.nodes → j ≢ p → is_among gone j ≡ false → SameNode c x y j

-- the leaf `old` is made anew in slot `new`, which was not reached, and says there what it said
pub record Consolidates (c : Config) (x y : Image) (old new : ℕ) : Type 0 where
  pub inside : (form_in c x).inside old ≡ true
  pub leaf : (form_in c x).level old ≡ 0
  pub fresh : (form_in c x).inside new ≡ false
  pub whole : node_fault c.nodes (node c y.raw new) (node c y.words new) 0 ((form_in c x).low old) ((form_in c x).high old) ≡ None
  pub same : (key : List ℕ) → found_of (node c y.words new) key ≡ found_of (node c x.words old) key
  pub link : TurnsLink c x y ((form_in c x).up old) ((form_in c x).index old) new (old ∷ [])
