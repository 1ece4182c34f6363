-- What a swap leaves as it was in an image, told of words.
use Rattle.std.specs.Prelude.{◌≡◌, ℕ, ◌+◌, ◌<◌, Bool, false}
use Rattle.bz_layout.specs.Addresses.{node_address}
use Rattle.bz_layout.specs.declared.config.Config.{Config}
use Rattle.bz_layout.specs.declared.sizes.TheConstants.{NODE_WORDS, ROOT_AT, ROOT_STATUS_AT}
use Rattle.bz_slotted.specs.InnerChanges.{StandsAlike}
use Rattle.bz_slotted.specs.Readers.{level_of}
use Rattle.bz_content.specs.Image.{Image, node}

-- slot k resolves to the words of before, and its block stands as it stood, but for an inner node's pointers
pub record SameNode (c : Config) (x y : Image) (k : ℕ) : Type 0 where
  pub words : (i : ℕ) → i < NODE_WORDS → y.words (node_address c k + i) ≡ x.words (node_address c k + i)
  pub stands : StandsAlike (node c x.raw k) (node c y.raw k) (node c x.words k) (level_of (node c x.words k))

-- root pointer and root status resolve to what they did
pub record SameRoot (x y : Image) : Type 0 where
  pub pointer : y.words ROOT_AT ≡ x.words ROOT_AT
  pub status : y.words ROOT_STATUS_AT ≡ x.words ROOT_STATUS_AT

-- the image is the same but at the addresses that are named
pub record SameBut (x y : Image) (named : ℕ → Bool) : Type 0 where
  pub raw : (a : ℕ) → named a ≡ false → y.raw a ≡ x.raw a
  pub words : (a : ℕ) → named a ≡ false → y.words a ≡ x.words a

-- none of the words of slot k is named
abbrev pub IsUnnamed : Config → (ℕ → Bool) → ℕ → Type 0
IsUnnamed c named k = (i : ℕ) → i < NODE_WORDS → named (node_address c k + i) ≡ false
