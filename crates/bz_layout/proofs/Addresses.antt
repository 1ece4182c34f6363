-- The laws of the map of the memory.
use Rattle.std.proofs.Common.{◌≡◌, ℕ, ◌+◌, ◌*◌, ◌<◌, ◌≤◌, ◌⊎◌, inl, inr, arith}
use Rattle.std.proofs.lemmas.Bool.{cases_lt}
use Rattle.bz_layout.specs.Addresses.{swap_address, node_address, IsOutsideSwaps, AddressesFit, DescriptorsApart, SlotsApart, AddressesArePlaced, DescriptorsStandApart, IsWholeLines, RegionsAreWholeLines}
use Rattle.bz_layout.specs.declared.sizes.TheConstants.{LINE_WORDS, SUPERBLOCK_WORDS, SWAP_WORDS, NODE_WORDS, NODE_LINES}

pub addresses_fit-holds : AddressesFit
addresses_fit-holds c is_config = record {
  size = omega arith;
  lines = omega arith;
  swap_words = λ number i below inside. omega arith;
  node_words = λ slot i below inside. omega arith;
  swap_numbers = omega arith;
  slot_numbers = omega arith;
}

pub descriptors_apart-holds : DescriptorsApart
descriptors_apart-holds m n i j left right same = (omega arith, omega arith)

pub slots_apart-holds : SlotsApart
slots_apart-holds c r s i j left right same = (omega arith, omega arith)

region : (a low high : ℕ) → (a < low) ⊎ ((low ≤ a) × (a < high)) ⊎ (high ≤ a)
region a low high = first (cases_lt a low) (cases_lt a high)
  where
    first : (a < low) ⊎ (low ≤ a) → (a < high) ⊎ (high ≤ a) → (a < low) ⊎ ((low ≤ a) × (a < high)) ⊎ (high ≤ a)
    first (inl below) other = inl below
    first (inr above) (inl below) = inr (inl (above, below))
    first (inr above) (inr past) = inr (inr past)

pub addresses_are_placed-holds : AddressesArePlaced
addresses_are_placed-holds c a inside = record {
  region = region a SUPERBLOCK_WORDS (node_address c 0);
  in_descriptor = λ above below. (omega arith, omega arith);
  in_slot = λ above. (omega arith, omega arith);
}

pub descriptors_stand_apart-holds : DescriptorsStandApart
descriptors_stand_apart-holds c = record {
  slot = λ slot i. inr (omega arith);
  swap = λ number i below inside. within number i below inside;
}
  where
    within : (number i : ℕ) → number < c.swaps → i < SWAP_WORDS → ¬ IsOutsideSwaps c (swap_address number + i)
    within number i below inside (inl superblock) = omega arith
    within number i below inside (inr node) = omega arith

-- words that begin and end with a line
whole : (start count lines more : ℕ) → start ≡ LINE_WORDS * lines → count ≡ LINE_WORDS * more → IsWholeLines start count
whole start count lines more begins ends = record {
  line = λ i inside. omega arith;
  alone = λ a i inside same. (omega arith, omega arith);
}

pub regions_are_whole_lines-holds : RegionsAreWholeLines
regions_are_whole_lines-holds = record {
  superblock = whole 0 SUPERBLOCK_WORDS 0 2 (omega arith) (omega arith);
  swap = λ number. whole (swap_address number) SWAP_WORDS (2 + 2 * number) 2 (omega arith) (omega arith);
  node = λ c slot. whole (node_address c slot) NODE_WORDS (2 + 2 * c.swaps + NODE_LINES * slot) NODE_LINES (omega arith) (omega arith);
}
