-- The laws of images.
use Rattle.std.specs.Prelude.{◌≡◌, ◌≢◌, ◌↔◌, ℕ, ◌^◌, ◌<◌, ◌==◌, if◌then◌else◌, Bool, true, false, List, [], ◌∷◌, Some, None, slice_index}
use Rattle.std.specs.FinMap.{get}
use Rattle.bz_layout.specs.Config.{IsConfig}
use Rattle.bz_layout.specs.Fresh.{fresh_words}
use Rattle.bz_layout.specs.declared.config.Config.{Config}
use Rattle.bz_layout.specs.declared.sizes.TheConstants.{ROOT_AT, ROOT_STATUS_AT}
use Rattle.bz_tree.specs.Form.{IsHonest}
use Rattle.bz_tree.specs.Descent.{leaf_of, content}
use Rattle.bz_tree.specs.Walk.{IsTree, is_among, form}
use Rattle.bz_tree.specs.Slots.{SameSlot, SameTop, Relinked}
use Rattle.bz_tree.specs.Outcomes.{SameTree, SameContent, Regrows}
use Rattle.bz_slotted.specs.Changes.{Rewrites}
use Rattle.bz_slotted.specs.Page.{page, visible, extent_of}
use Rattle.bz_slotted.specs.Records.{key_in, payload_in, key_at}
use Rattle.bz_word.specs.declared.meta.Meta.{Meta}
use Rattle.bz_slotted.specs.Readers.{level_of, found_of}
use Rattle.bz_content.specs.Changes.{SameNode, SameRoot, SameBut, IsUnnamed}
use Rattle.bz_content.specs.Content.{image_fault, IsWellFormed, content_in, view_in}
use Rattle.bz_content.specs.Image.{Image, node, root}
use Rattle.bz_content.specs.Resolving.{resolve}
use Rattle.bz_content.specs.Swaps.{form_in, OnLeaf, StaysWhole, IsQuietChange, TurnsLink, Consolidates}
use Rattle.bz_content.specs.Map.{map_of_image}
use Rattle.bz_content.specs.Restructures.{Splits, SplitsRoot, Merges}
use Rattle.bz_content.specs.View.{view_of}

-- what the words of an image say has rules that see to what a tree needs
abbrev pub ViewsAreHonest : Type 0
ViewsAreHonest = (c : Config) (x : Image) → IsHonest (view_of c x)

-- a plain value resolves to itself
abbrev pub PlainWordsStandForThemselves : Type 0
PlainWordsStandForThemselves = (raw : ℕ → ℕ) (a : ℕ) → raw a < 2 ^ 61 → resolve raw a ≡ raw a

-- an image has no fault exactly where all its rules hold
abbrev pub WellFormedImagesHaveNoFault : Type 0
WellFormedImagesHaveNoFault = (c : Config) (raw : ℕ → ℕ) → (image_fault c raw ≡ None) ↔ IsWellFormed c raw

-- fresh memory is well formed and holds nothing
abbrev pub FreshMemoryIsEmpty : Type 0
FreshMemoryIsEmpty =
    (c : Config) → IsConfig c →
    (image_fault c (slice_index (fresh_words c)) ≡ None) × ((key : List ℕ) → content_in c (slice_index (fresh_words c)) key ≡ None)

-- of fresh memory slot 0 is reached, and no other
abbrev pub FreshMemoryReachesSlotZero : Type 0
FreshMemoryReachesSlotZero =
    (c : Config) (k : ℕ) → IsConfig c → k < c.nodes → (form (view_in c (slice_index (fresh_words c)))).inside k ≡ (k == 0)

-- a swap changes nothing of the slots of which it names no word, nor of the root if it names neither of its words
pub record UnnamedWordsStay : Type 0 where
  pub node : (c : Config) (x y : Image) (named : ℕ → Bool) (k : ℕ) → SameBut x y named → IsUnnamed c named k → SameNode c x y k
  pub root : (x y : Image) (named : ℕ → Bool) → SameBut x y named → named ROOT_AT ≡ false → named ROOT_STATUS_AT ≡ false → SameRoot x y

-- words of slots that are not reached do not matter
abbrev pub UnreachedWordsDoNotMatter : Type 0
UnreachedWordsDoNotMatter =
    (c : Config) (x y : Image) → IsTree (view_of c x) → SameRoot x y →
    ((k : ℕ) → (form_in c x).inside k ≡ true → k ≢ c.nodes → SameNode c x y k) → SameTree (view_of c x) (view_of c y) × SameContent (view_of c x) (view_of c y)

-- a swap on one leaf that stays whole leaves the tree, and changes what is said of the keys of that leaf alone
abbrev pub LeafSwapsKeepTheTree : Type 0
LeafSwapsKeepTheTree =
    (c : Config) (x y : Image) (k : ℕ) → IsTree (view_of c x) → OnLeaf c x y k → StaysWhole c x y k →
    SameTree (view_of c x) (view_of c y)
    × ((key : List ℕ) → content (view_of c y) key ≡ if leaf_of (view_of c x) key == k then found_of (node c y.words k) key else content (view_of c x) key)

-- a reservation, the first swap of an update, a freeze and private stores keep tree and content
abbrev pub QuietSwapsKeepTheContent : Type 0
QuietSwapsKeepTheContent =
    (c : Config) (x y : Image) (k : ℕ) → IsTree (view_of c x) → OnLeaf c x y k →
    IsQuietChange (node c x.raw k) (node c y.raw k) (node c x.words k) (node c y.words k) → SameTree (view_of c x) (view_of c y) × SameContent (view_of c x) (view_of c y)

-- what is said of each key once record j of the leaf k says mt: nothing else than before of other keys than those
-- of its old and its new record, the payload of a new one that is visible, and nothing of an old one that is gone
pub record Rewritten (c : Config) (x y : Image) (k j : ℕ) (mt : Meta) : Type 0 where
  pub tree : SameTree (view_of c x) (view_of c y)
  pub other : (key : List ℕ) → (visible mt ≡ true → key_in (node c x.words k) (extent_of mt) ≢ key) →
      (visible ((page (node c x.words k)).meta j) ≡ true → key_at (page (node c x.words k)) j ≢ key) → content (view_of c y) key ≡ content (view_of c x) key
  pub new : visible mt ≡ true → content (view_of c y) (key_in (node c x.words k) (extent_of mt)) ≡ Some (payload_in (node c x.words k) (extent_of mt))
  pub gone : visible ((page (node c x.words k)).meta j) ≡ true → visible mt ≡ false → content (view_of c y) (key_at (page (node c x.words k)) j) ≡ None

-- a publication, a delete and the second swap of an update change what is said of their record's key alone
abbrev pub RewritesChangeOneKey : Type 0
RewritesChangeOneKey =
    (c : Config) (x y : Image) (k j : ℕ) (mt : Meta) → IsTree (view_of c x) → OnLeaf c x y k →
    Rewrites (node c x.raw k) (node c y.raw k) (node c x.words k) (node c y.words k) ((form_in c x).low k) ((form_in c x).high k) j mt → Rewritten c x y k j mt

-- what a swap of a link does to the slots: what the laws of the swaps of links ask of them
pub record Turned (c : Config) (x y : Image) (p i to : ℕ) (gone : List ℕ) : Type 0 where
  pub link : Relinked (view_of c x) (view_of c y) (form_in c x) p i to
  pub others : (j : ℕ) → (form_in c x).inside j ≡ true → j ≢ p → is_among gone j ≡ false → SameSlot (view_of c x) (view_of c y) j
  pub below_root : p ≢ c.nodes → is_among gone (root x.words) ≡ false → SameTop (view_of c x) (view_of c y)
  pub at_root : p ≡ c.nodes → level_of (node c y.words to) ≡ level_of (node c x.words (root x.words)) → SameTop (view_of c x) (view_of c y)

abbrev pub LinksAreTurned : Type 0
LinksAreTurned =
    (c : Config) (x y : Image) (p i to : ℕ) (gone : List ℕ) → IsTree (view_of c x) → TurnsLink c x y p i to gone → Turned c x y p i to gone

-- a consolidation, at the root or below an inner node, keeps the content
abbrev pub ConsolidationsKeepTheContent : Type 0
ConsolidationsKeepTheContent =
    (c : Config) (x y : Image) (old new : ℕ) → IsTree (view_of c x) → Consolidates c x y old new →
    Regrows (view_of c x) (view_of c y) (old ∷ []) (new ∷ [])

-- a split below an inner node keeps the content
abbrev pub SplitsKeepTheContent : Type 0
SplitsKeepTheContent =
    (c : Config) (x y : Image) (a q l r m : ℕ) (sep : List ℕ) → IsTree (view_of c x) → Splits c x y a q l r m sep →
    Regrows (view_of c x) (view_of c y) (a ∷ (form_in c x).up a ∷ []) (q ∷ l ∷ r ∷ [])

-- a split of the root keeps the content
abbrev pub RootSplitsKeepTheContent : Type 0
RootSplitsKeepTheContent =
    (c : Config) (x y : Image) (q l r m : ℕ) (sep : List ℕ) → IsTree (view_of c x) → SplitsRoot c x y q l r m sep →
    Regrows (view_of c x) (view_of c y) (root x.words ∷ []) (q ∷ l ∷ r ∷ [])

-- a merge of two leaves keeps the content
abbrev pub MergesKeepTheContent : Type 0
MergesKeepTheContent =
    (c : Config) (x y : Image) (a b q m : ℕ) (sep : List ℕ) → IsTree (view_of c x) → Merges c x y a b q m sep →
    Regrows (view_of c x) (view_of c y) (a ∷ b ∷ (form_in c x).up a ∷ []) (q ∷ m ∷ [])

-- the content as a map answers each key as the descent does
abbrev pub MapIsTheContent : Type 0
MapIsTheContent = (c : Config) (x : Image) → IsTree (view_of c x) → (key : List ℕ) → get (map_of_image c x) key ≡ content (view_of c x) key
