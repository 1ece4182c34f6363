-- The bytes of an image: a head, and then the words.
use Rattle.std.specs.Prelude.{ℕ, ◌+◌, ◌*◌, ◌≡◌, ◌≤◌, ◌<◌, ◌^◌, List, [], ◌∷◌, ◌++◌, length, slice_index}
use Rattle.std.specs.List.{flat_map}
use Rattle.byteorder.specs.Endian.{little_bytes}
use Rattle.bz_layout.specs.declared.limits.TheConstants.{MIN_NODES, MAX_NODES, MIN_SWAPS, MAX_SWAPS}
use Rattle.bz_layout.specs.declared.sizes.TheConstants.{SUPERBLOCK_WORDS, SWAP_WORDS, NODE_WORDS}
use Rattle.bz_image.specs.declared.form.TheConstants.{VERSION, HEAD_BYTES, WORD_BYTES}
use Rattle.bz_image.specs.declared.image.Image.{Image}

-- the text BZIMAGE and a line feed
abbrev pub magic : List ℕ
magic = 66 ∷ 90 ∷ 73 ∷ 77 ∷ 65 ∷ 71 ∷ 69 ∷ 10 ∷ []

-- the words of a memory with so many node slots and descriptors
abbrev pub word_count : ℕ → ℕ → ℕ
word_count nodes swaps = SUPERBLOCK_WORDS + SWAP_WORDS * swaps + NODE_WORDS * nodes

-- the bytes of its image
abbrev pub file_length : ℕ → ℕ → ℕ
file_length nodes swaps = HEAD_BYTES + WORD_BYTES * word_count nodes swaps

-- a head: the magic bytes, the version and the two numbers, in four bytes each, the lowest first
abbrev pub bytes_of_head : ℕ → ℕ → List ℕ
bytes_of_head nodes swaps = magic ++ little_bytes 4 VERSION ++ little_bytes 4 nodes ++ little_bytes 4 swaps

-- words, in eight bytes each, the lowest first
abbrev pub bytes_of_words : List ℕ → List ℕ
bytes_of_words words = flat_map (little_bytes 8) words

-- a head, and then the words
abbrev pub file_of : ℕ → ℕ → List ℕ → List ℕ
file_of nodes swaps words = bytes_of_head nodes swaps ++ bytes_of_words words

-- the bytes of an image
abbrev pub file_of_image : Image → List ℕ
file_of_image image = file_of image.nodes image.swaps image.words

-- a memory may have so many node slots and descriptors
pub record AreSizes (nodes swaps : ℕ) : Type 0 where
  pub some_nodes : MIN_NODES ≤ nodes
  pub nodes_fit : nodes ≤ MAX_NODES
  pub some_swaps : MIN_SWAPS ≤ swaps
  pub swaps_fit : swaps ≤ MAX_SWAPS

-- an image that a memory may have: its numbers are in their ranges, and there is a word for each address
pub record IsSized (image : Image) : Type 0 where
  pub sizes : AreSizes image.nodes image.swaps
  pub counted : length image.words ≡ word_count image.nodes image.swaps
  pub words_fit : (a : ℕ) → slice_index image.words a < 2 ^ 64
