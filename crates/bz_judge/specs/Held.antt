-- What a well-formed image holds, as a list.
use Rattle.std.specs.Prelude.{◌≡◌, ℕ, List, length, slice_index, None}
use Rattle.std.specs.FinMap.{entries}
use Rattle.bz_content.specs.Content.{image_fault}
use Rattle.bz_content.specs.Map.{map_in}
use Rattle.bz_layout.specs.Addresses.{words_of}
use Rattle.bz_layout.specs.Config.{IsConfig}
use Rattle.bz_layout.specs.declared.config.Config.{Config}
use Rattle.bz_tree.specs.Content.{Pairs}

-- a well-formed image of a memory of this configuration
pub record IsImageOf (c : Config) (image : List ℕ) : Type 0 where
  pub config : IsConfig c
  pub size : length image ≡ words_of c
  pub none : image_fault c (slice_index image) ≡ None

-- a well-formed image, of some configuration. It tells the number of nodes and of descriptors itself, and nothing else of
-- a configuration matters to it
pub record IsImage (image : List ℕ) : Type 0 where
  pub config : Config
  pub whole : IsImageOf config image

-- the pairs of the map that an image holds, in the order of their keys
abbrev pub pairs_held : Config → (ℕ → ℕ) → Pairs
pairs_held c raw = entries (map_in c raw)
