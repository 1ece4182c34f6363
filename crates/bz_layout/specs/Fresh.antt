-- The words of fresh memory.
use Rattle.std.specs.Prelude.{◌≡◌, ℕ, ◌-◌, ◌≤◌, List, [], ◌∷◌, ◌++◌, length, replicate, slice_index}
use Rattle.bz_layout.specs.Addresses.{words_of}
use Rattle.bz_layout.specs.declared.config.Config.{Config}
use Rattle.bz_layout.specs.declared.sizes.TheConstants.{FORMAT_AT, ROOT_AT, ROOT_STATUS_AT, NODES_AT, SWAPS_AT, SUPERBLOCK_USED, FORMAT, FIRST_ROOT}

-- the superblock's words that are not always 0: format, root pointer, root status, and the two sizes
abbrev pub fresh_superblock : Config → List ℕ
fresh_superblock c = FORMAT ∷ FIRST_ROOT ∷ 0 ∷ c.nodes ∷ c.swaps ∷ []

-- these, and zeros to the end: slot 0 is then an empty leaf, which is the root
abbrev pub fresh_words : Config → List ℕ
fresh_words c = fresh_superblock c ++ replicate (words_of c - SUPERBLOCK_USED) 0

-- fresh memory word by word
pub record SaysFresh (c : Config) (words : List ℕ) : Type 0 where
  pub size : length words ≡ words_of c
  pub format : slice_index words FORMAT_AT ≡ FORMAT
  pub root : slice_index words ROOT_AT ≡ FIRST_ROOT
  pub nodes : slice_index words NODES_AT ≡ c.nodes
  pub swaps : slice_index words SWAPS_AT ≡ c.swaps
  pub root_status : slice_index words ROOT_STATUS_AT ≡ 0
  pub rest : (a : ℕ) → SUPERBLOCK_USED ≤ a → slice_index words a ≡ 0

abbrev pub FreshWordsSay : Type 0
FreshWordsSay = (c : Config) → SaysFresh c (fresh_words c)
