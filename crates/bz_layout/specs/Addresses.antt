-- The map of the memory: where a descriptor and a node slot begin, and what lies apart from what.
use Rattle.std.specs.Prelude.{◌≡◌, ℕ, ◌+◌, ◌*◌, ◌/◌, ◌%◌, ◌-◌, ◌^◌, ◌<◌, ◌≤◌, ◌⊎◌}
use Rattle.bz_layout.specs.Config.{IsConfig}
use Rattle.bz_layout.specs.declared.config.Config.{Config}
use Rattle.bz_layout.specs.declared.sizes.TheConstants.{LINE_WORDS, SUPERBLOCK_WORDS, SWAP_WORDS, NODE_WORDS}

-- the first word of a descriptor: the descriptors follow the superblock
abbrev pub swap_address : ℕ → ℕ
swap_address number = SUPERBLOCK_WORDS + SWAP_WORDS * number

-- the first word of a node slot: the slots follow the descriptors
abbrev pub node_address : Config → ℕ → ℕ
node_address c slot = swap_address c.swaps + NODE_WORDS * slot

-- the words of the memory, which ends with the last slot
abbrev pub words_of : Config → ℕ
words_of c = node_address c c.nodes

-- the line of an address
abbrev pub line_of : ℕ → ℕ
line_of a = a / LINE_WORDS

-- the address is no word of a descriptor: it is one of the superblock or of a node slot
abbrev pub IsOutsideSwaps : Config → ℕ → Type 0
IsOutsideSwaps c a = (a < SUPERBLOCK_WORDS) ⊎ (node_address c 0 ≤ a)

-- the descriptor of an address among the descriptors, and the word of it
abbrev pub swap_of : ℕ → ℕ
swap_of a = (a - SUPERBLOCK_WORDS) / SWAP_WORDS

abbrev pub swap_word_of : ℕ → ℕ
swap_word_of a = (a - SUPERBLOCK_WORDS) % SWAP_WORDS

-- the slot of an address among the slots, and the word of it
abbrev pub slot_of : Config → ℕ → ℕ
slot_of c a = (a - node_address c 0) / NODE_WORDS

abbrev pub node_word_of : Config → ℕ → ℕ
node_word_of c a = (a - node_address c 0) % NODE_WORDS

-- the memory holds each word of each descriptor and slot; addresses fit 32 bits, numbers 16, and lines are whole
pub record HoldsAll (c : Config) : Type 0 where
  pub size : words_of c < 2 ^ 32
  pub lines : words_of c % LINE_WORDS ≡ 0
  pub swap_words : (number i : ℕ) → number < c.swaps → i < SWAP_WORDS → swap_address number + i < node_address c 0
  pub node_words : (slot i : ℕ) → slot < c.nodes → i < NODE_WORDS → node_address c slot + i < words_of c
  pub swap_numbers : c.swaps ≤ 2 ^ 16
  pub slot_numbers : c.nodes < 2 ^ 16

abbrev pub AddressesFit : Type 0
AddressesFit = (c : Config) → IsConfig c → HoldsAll c

-- a word of a descriptor is a word of no other, and is one of its words only
abbrev pub DescriptorsApart : Type 0
DescriptorsApart =
    (m n i j : ℕ) → i < SWAP_WORDS → j < SWAP_WORDS → swap_address m + i ≡ swap_address n + j → (m ≡ n) × (i ≡ j)

-- a word of a slot is a word of no other, and is one of its words only
abbrev pub SlotsApart : Type 0
SlotsApart =
    (c : Config) (r s i j : ℕ) → i < NODE_WORDS → j < NODE_WORDS → node_address c r + i ≡ node_address c s + j → (r ≡ s) × (i ≡ j)

-- an address of the memory is one of the superblock, or of the descriptor, or of the slot that is named
pub record IsPlaced (c : Config) (a : ℕ) : Type 0 where
  pub region : (a < SUPERBLOCK_WORDS) ⊎ ((SUPERBLOCK_WORDS ≤ a) × (a < node_address c 0)) ⊎ (node_address c 0 ≤ a)
  pub in_descriptor : SUPERBLOCK_WORDS ≤ a → a < node_address c 0 → (swap_of a < c.swaps) × (a ≡ swap_address (swap_of a) + swap_word_of a)
  pub in_slot : node_address c 0 ≤ a → (slot_of c a < c.nodes) × (a ≡ node_address c (slot_of c a) + node_word_of c a)

abbrev pub AddressesArePlaced : Type 0
AddressesArePlaced = (c : Config) (a : ℕ) → a < words_of c → IsPlaced c a

-- a word of a slot is no word of a descriptor, and a word of a descriptor is one
pub record SwapsStandApart (c : Config) : Type 0 where
  pub slot : (slot i : ℕ) → IsOutsideSwaps c (node_address c slot + i)
  pub swap : (number i : ℕ) → number < c.swaps → i < SWAP_WORDS → ¬ IsOutsideSwaps c (swap_address number + i)

abbrev pub DescriptorsStandApart : Type 0
DescriptorsStandApart = (c : Config) → SwapsStandApart c

-- the words from an address on are whole lines
pub record IsWholeLines (start count : ℕ) : Type 0 where
  pub line : (i : ℕ) → i < count → line_of (start + i) ≡ line_of start + i / LINE_WORDS
  pub alone : (a i : ℕ) → i < count → line_of a ≡ line_of (start + i) → (start ≤ a) × (a < start + count)

-- superblock, descriptors and slots share no line
pub record RegionsAreWholeLines : Type 0 where
  pub superblock : IsWholeLines 0 SUPERBLOCK_WORDS
  pub swap : (number : ℕ) → IsWholeLines (swap_address number) SWAP_WORDS
  pub node : (c : Config) (slot : ℕ) → IsWholeLines (node_address c slot) NODE_WORDS
