-- What the sizes of nodes and the thresholds owe each other, over numbers of words.
use Rattle.std.specs.Prelude.{◌≡◌, ℕ, ◌+◌, ◌*◌, ◌-◌, ◌/◌, ◌^◌, ◌<◌, ◌≤◌}
use Rattle.bz_layout.specs.declared.sizes.TheConstants.{FORMAT_AT, ROOT_AT, ROOT_STATUS_AT, NODES_AT, SWAPS_AT, SUPERBLOCK_USED, SUPERBLOCK_WORDS, SWAP_STATUS_AT, SWAP_COUNT_AT, ENTRIES_AT, ENTRY_WORDS, MAX_ENTRIES, SWAP_WORDS, NODE_WORDS, STATUS_AT, HEADER_AT, LOW_FENCE_AT, HIGH_FENCE_AT, FENCE_WORDS, META_AT, SHARED_WORDS, NODE_LINES, LINE_WORDS, BYTES_IN_WORD}
use Rattle.bz_layout.specs.declared.thresholds.TheConstants.{PAYLOAD_WORDS, LEAF_RECORD_WORDS, RECORD_WORDS, RECORD_LINES, INNER_RECORD_WORDS, LEAST_RECORD_WORDS, MAX_PAIRS, SPLIT_ABOVE, MERGE_BELOW, INNER_LIMIT, MAX_LEVELS, CONSOLIDATION_SLOTS, MERGE_SLOTS, SPLIT_SLOTS, SLOTS_PER_CALL, SWAPS_PER_CALL}

-- the words of the superblock that are used, and a descriptor's status, count and entries, lie apart and inside
pub record DescriptorPartsFollow : Type 0 where
  pub format : FORMAT_AT < ROOT_AT
  pub root : ROOT_AT < ROOT_STATUS_AT
  pub root_status : ROOT_STATUS_AT < NODES_AT
  pub nodes : NODES_AT < SWAPS_AT
  pub swaps : SWAPS_AT < SUPERBLOCK_USED
  pub superblock : SUPERBLOCK_USED ≤ SUPERBLOCK_WORDS
  pub status : SWAP_STATUS_AT < SWAP_COUNT_AT
  pub count : SWAP_COUNT_AT < ENTRIES_AT
  pub entries : ENTRIES_AT + ENTRY_WORDS * MAX_ENTRIES ≤ SWAP_WORDS

-- the parts of a node follow each other, and the shared words end it
pub record NodePartsFollow : Type 0 where
  pub header : STATUS_AT < HEADER_AT
  pub low_fence : HEADER_AT < LOW_FENCE_AT
  pub high_fence : LOW_FENCE_AT + FENCE_WORDS ≤ HIGH_FENCE_AT
  pub metadata : HIGH_FENCE_AT + FENCE_WORDS ≤ META_AT
  pub shared : META_AT + SHARED_WORDS ≡ NODE_WORDS
  -- a fence, which is a key, and a payload are equally wide: one place of a look-up takes either
  pub width : PAYLOAD_WORDS ≡ FENCE_WORDS
  pub lines : LINE_WORDS * NODE_LINES ≡ NODE_WORDS

-- metadata and block do not meet, the block begins past the node's first word, and both fit their fields
pub record HasApart (count block : ℕ) : Type 0 where
  pub apart : META_AT + count ≤ NODE_WORDS - block
  pub inside : block ≤ NODE_WORDS
  pub offset : 1 ≤ NODE_WORDS - block
  pub offset_fits : NODE_WORDS < 2 ^ 28
  pub count_fits : count < 2 ^ 8
  pub block_fits : block < 2 ^ 10

abbrev pub SharedWordsSuffice : Type 0
SharedWordsSuffice = (count block : ℕ) → count + block ≤ SHARED_WORDS → HasApart count block

-- a record of a key and a payload, and one of a separator and a child pointer, with their metadata words
pub record HaveBounds (key payload : ℕ) : Type 0 where
  pub leaf : 1 + key + payload ≤ LEAF_RECORD_WORDS
  pub block : key + payload ≤ RECORD_WORDS
  pub leaf_least : 1 ≤ key → LEAST_RECORD_WORDS ≤ 1 + key + payload
  pub inner : key + 2 ≤ INNER_RECORD_WORDS
  pub inner_least : LEAST_RECORD_WORDS ≤ key + 2

abbrev pub RecordsAreBounded : Type 0
RecordsAreBounded = (key payload : ℕ) → key ≤ FENCE_WORDS → payload ≤ PAYLOAD_WORDS → HaveBounds key payload

-- the words of a record, from an address on, lie in so few lines
abbrev pub RecordsLieOverFewLines : Type 0
RecordsLieOverFewLines = (address words : ℕ) → 0 < words → words ≤ RECORD_WORDS → (address + words - 1) / LINE_WORDS < address / LINE_WORDS + RECORD_LINES

-- records that fit a leaf fit a page
abbrev pub PairsFitPage : Type 0
PairsFitPage = (pairs words : ℕ) → LEAST_RECORD_WORDS * pairs ≤ words → words ≤ SHARED_WORDS → pairs ≤ MAX_PAIRS

-- a leaf that is not split has room for any record, and one word more
abbrev pub SettledLeafTakesRecord : Type 0
SettledLeafTakesRecord = (live record_words : ℕ) → live ≤ SPLIT_ABOVE → record_words ≤ LEAF_RECORD_WORDS → live + record_words + 1 ≤ SHARED_WORDS

-- two leaves that are merged make one that has room for any record, and one word more
abbrev pub MergedLeafTakesRecord : Type 0
MergedLeafTakesRecord =
    (left right record_words : ℕ) → left + right ≤ SPLIT_ABOVE → record_words ≤ LEAF_RECORD_WORDS → left + right + record_words + 1 ≤ SHARED_WORDS

-- a leaf that is split is none that is merged
abbrev pub SplitLeafIsNotMerged : Type 0
SplitLeafIsNotMerged = (live : ℕ) → SPLIT_ABOVE < live → MERGE_BELOW ≤ live

-- a leaf from which one record goes, and which is not merged then
abbrev pub DeleteLeavesEnough : Type 0
DeleteLeavesEnough = (live record_words : ℕ) → MERGE_BELOW + LEAF_RECORD_WORDS ≤ live → record_words ≤ LEAF_RECORD_WORDS → MERGE_BELOW ≤ live - record_words

-- the first records whose words, doubled, are at least all the words, and the fewest: those before the
-- last of them are too few
pub record IsFewestHalf (words before last : ℕ) : Type 0 where
  pub too_few : 2 * before < words
  pub enough : words ≤ 2 * (before + last)

-- neither half is empty, and none is above the limit
pub record AreHalves (words left limit : ℕ) : Type 0 where
  pub left_some : 0 < left
  pub right_some : left < words
  pub left_small : left ≤ limit
  pub right_small : words - left ≤ limit

-- the halves of a leaf that is split are not empty, and have room for any record
abbrev pub LeafSplitsInHalves : Type 0
LeafSplitsInHalves =
    (live before last : ℕ) → SPLIT_ABOVE < live → live ≤ SHARED_WORDS → IsFewestHalf live before last → last ≤ LEAF_RECORD_WORDS → AreHalves live (before + last) SPLIT_ABOVE

-- the halves of an inner node that is split are not empty, and take one more separator
abbrev pub InnerSplitsInHalves : Type 0
InnerSplitsInHalves =
    (words before last : ℕ) → INNER_LIMIT < words → words ≤ SHARED_WORDS → IsFewestHalf words before last → last ≤ INNER_RECORD_WORDS → AreHalves words (before + last) INNER_LIMIT

-- an inner node up to the limit takes one more separator
abbrev pub InnerTakesSeparator : Type 0
InnerTakesSeparator = (words separator : ℕ) → words ≤ INNER_LIMIT → separator ≤ INNER_RECORD_WORDS → words + separator ≤ SHARED_WORDS

-- an inner node that does not take a separator is one that splits in halves
abbrev pub FullInnerIsAboveLimit : Type 0
FullInnerIsAboveLimit = (words separator : ℕ) → separator ≤ INNER_RECORD_WORDS → SHARED_WORDS < words + separator → INNER_LIMIT < words

-- a new root, with a first child and one separator, takes one more
abbrev pub NewRootIsSmall : Type 0
NewRootIsSmall = (separator : ℕ) → separator ≤ INNER_RECORD_WORDS → LEAST_RECORD_WORDS + separator ≤ INNER_LIMIT

-- what a call that runs alone may ask for: a split on each level, a consolidation and a merge
pub record HasSupply (levels : ℕ) : Type 0 where
  pub slots : SPLIT_SLOTS * levels + CONSOLIDATION_SLOTS + MERGE_SLOTS ≤ SLOTS_PER_CALL
  pub swaps : 2 * levels + 8 ≤ SWAPS_PER_CALL

abbrev pub SupplySuffices : Type 0
SupplySuffices = (levels : ℕ) → levels ≤ MAX_LEVELS → HasSupply levels
