-- An image whose words are lawful, and the words of a node of it as they were read.
use Rattle.std.specs.Prelude.{◌≡◌, ℕ, ◌<◌, true, List, length, slice_index}
use Rattle.bz_content.specs.Image.{node}
use Rattle.bz_content.specs.Lawful.{is_lawful}
use Rattle.bz_content.specs.Resolving.{resolve}
use Rattle.bz_layout.specs.Addresses.{words_of}
use Rattle.bz_layout.specs.Config.{IsConfig}
use Rattle.bz_layout.specs.declared.config.Config.{Config}
use Rattle.bz_slotted.specs.ReadingLaws.{node_of}

-- an image of a memory, whose words are all lawful
pub record IsScanned (c : Config) (image : List ℕ) : Type 0 where
  pub config : IsConfig c
  pub size : length image ≡ words_of c
  pub lawful : (a : ℕ) → a < words_of c → is_lawful c (slice_index image) a ≡ true

-- these are the words of a slot, resolved
abbrev pub IsNodeOf : Config → List ℕ → ℕ → List ℕ → Type 0
IsNodeOf c image slot words = node_of words ≡ node c (resolve (slice_index image)) slot
