-- The leaf of a key, and whether it could be merged with a neighbour.
use Rattle.std.specs.Prelude.{◌≡◌, ◌⊎◌, ℕ, ◌+◌, ◌<◌, ◌≤◌, List}
use Rattle.bz_layout.specs.declared.config.Config.{Config}
use Rattle.bz_layout.specs.declared.thresholds.TheConstants.{MERGE_BELOW, SPLIT_ABOVE}
use Rattle.bz_tree.specs.Descent.{leaf_of}
use Rattle.bz_tree.specs.Walk.{form}
use Rattle.bz_slotted.specs.Page.{Page, page}
use Rattle.bz_slotted.specs.Records.{live_words}
use Rattle.bz_content.specs.Content.{image_of, leaf_in, view_in}
use Rattle.bz_content.specs.Image.{Image, node}
use Rattle.bz_content.specs.Resolving.{resolve}
use Rattle.bz_content.specs.View.{view_of}

-- the key's leaf
abbrev pub leaf_page : Config → Image → List ℕ → Page
leaf_page c x key = page (node c x.words (leaf_of (view_of c x) key))

-- the slot of the node above it, and which of that node's children the leaf is
abbrev pub parent_in : Config → (ℕ → ℕ) → List ℕ → ℕ
parent_in c raw key = (form (view_in c raw)).up (leaf_in c raw key)

abbrev pub place_in : Config → (ℕ → ℕ) → List ℕ → ℕ
place_in c raw key = (form (view_in c raw)).index (leaf_in c raw key)

-- the live words of the leaf, and those of child j of the node above it, which is a leaf too
abbrev pub own_live : Config → (ℕ → ℕ) → List ℕ → ℕ
own_live c raw key = live_words (leaf_page c (image_of raw) key)

abbrev pub beside_live : Config → (ℕ → ℕ) → List ℕ → ℕ → ℕ
beside_live c raw key j = live_words (page (node c (resolve raw) ((view_in c raw).child (parent_in c raw key) j)))

-- in this image the key's leaf has fewer live words than a leaf needs to stand alone; and directly before or after it, below the same
-- node, stands one with which it has together no more than a leaf may keep. A leaf that is the root has no neighbour: above it stands the
-- superblock, which has one child
pub record MayBeMerged (c : Config) (raw : ℕ → ℕ) (key : List ℕ) : Type 0 where
  pub small : own_live c raw key < MERGE_BELOW
  pub place : ℕ
  pub within : place < (view_in c raw).count (parent_in c raw key)
  pub next : (place ≡ place_in c raw key + 1) ⊎ (place + 1 ≡ place_in c raw key)
  pub room : own_live c raw key + beside_live c raw key place ≤ SPLIT_ABOVE
