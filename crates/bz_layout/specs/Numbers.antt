-- The numbers of this format, each once: a change of format replaces them here and in the constants.
use Rattle.std.specs.Prelude.{◌≡◌}
use Rattle.bz_layout.specs.declared.sizes.TheConstants.{LINE_WORDS, SUPERBLOCK_WORDS, FORMAT_AT, ROOT_AT, ROOT_STATUS_AT, NODES_AT, SWAPS_AT, SUPERBLOCK_USED, FORMAT, FIRST_ROOT, SWAP_WORDS, SWAP_STATUS_AT, SWAP_COUNT_AT, ENTRIES_AT, ENTRY_WORDS, MAX_ENTRIES, NODE_WORDS, STATUS_AT, HEADER_AT, LOW_FENCE_AT, HIGH_FENCE_AT, FENCE_WORDS, META_AT, SHARED_WORDS, NODE_LINES, BYTES_IN_WORD}
use Rattle.bz_layout.specs.declared.thresholds.TheConstants.{PAYLOAD_WORDS, LEAF_RECORD_WORDS, RECORD_WORDS, RECORD_LINES, INNER_RECORD_WORDS, LEAST_RECORD_WORDS, MAX_PAIRS, SPLIT_ABOVE, MERGE_BELOW, INNER_LIMIT, MAX_LEVELS, CONSOLIDATION_SLOTS, MERGE_SLOTS, SPLIT_SLOTS, SLOTS_PER_CALL, SWAPS_PER_CALL, MARKS_PER_CALL, RECOVERY_ACTS_PER_WORD, MARKS_PER_POWER_ON, FIND_READS_PER_RECORD, FIND_READS_BESIDES, DESCEND_READS_PER_RECORD, DESCEND_READS_BESIDES, DESCEND_READS_AT_ROOT}
use Rattle.bz_layout.specs.declared.swaps.TheConstants.{INSERT_SWAPS, UPDATE_SWAPS, DELETE_SWAPS, FREEZE_SWAPS, RENEWAL_SWAPS, MERGE_SWAPS}

-- the memory: lines, superblock, descriptors
pub record MapNumbers : Type 0 where
  pub line_words : LINE_WORDS ≡ 8
  pub bytes_in_word : BYTES_IN_WORD ≡ 7
  pub superblock_words : SUPERBLOCK_WORDS ≡ 16
  pub format_at : FORMAT_AT ≡ 0
  pub root_at : ROOT_AT ≡ 1
  pub root_status_at : ROOT_STATUS_AT ≡ 2
  pub nodes_at : NODES_AT ≡ 3
  pub swaps_at : SWAPS_AT ≡ 4
  pub superblock_used : SUPERBLOCK_USED ≡ 5
  pub format : FORMAT ≡ 2
  pub first_root : FIRST_ROOT ≡ 1
  pub swap_words : SWAP_WORDS ≡ 16
  pub swap_status_at : SWAP_STATUS_AT ≡ 0
  pub swap_count_at : SWAP_COUNT_AT ≡ 1
  pub entries_at : ENTRIES_AT ≡ 2
  pub entry_words : ENTRY_WORDS ≡ 3
  pub max_entries : MAX_ENTRIES ≡ 4

-- a node and its parts
pub record NodeNumbers : Type 0 where
  pub node_words : NODE_WORDS ≡ 256
  pub node_lines : NODE_LINES ≡ 32
  pub status_at : STATUS_AT ≡ 0
  pub header_at : HEADER_AT ≡ 1
  pub low_fence_at : LOW_FENCE_AT ≡ 2
  pub high_fence_at : HIGH_FENCE_AT ≡ 10
  pub fence_words : FENCE_WORDS ≡ 8
  pub meta_at : META_AT ≡ 18
  pub shared_words : SHARED_WORDS ≡ 238

-- records, thresholds and levels
pub record TreeNumbers : Type 0 where
  pub payload_words : PAYLOAD_WORDS ≡ 8
  pub leaf_record_words : LEAF_RECORD_WORDS ≡ 17
  pub record_words : RECORD_WORDS ≡ 16
  pub record_lines : RECORD_LINES ≡ 3
  pub inner_record_words : INNER_RECORD_WORDS ≡ 10
  pub least_record_words : LEAST_RECORD_WORDS ≡ 2
  pub max_pairs : MAX_PAIRS ≡ 119
  pub split_above : SPLIT_ABOVE ≡ 144
  pub merge_below : MERGE_BELOW ≡ 64
  pub inner_limit : INNER_LIMIT ≡ 228
  pub max_levels : MAX_LEVELS ≡ 12
  pub consolidation_slots : CONSOLIDATION_SLOTS ≡ 1
  pub merge_slots : MERGE_SLOTS ≡ 2
  pub split_slots : SPLIT_SLOTS ≡ 3

-- what suffices for a call that runs alone, for a recovery and for a look-up
pub record SupplyNumbers : Type 0 where
  pub slots_per_call : SLOTS_PER_CALL ≡ 64
  pub swaps_per_call : SWAPS_PER_CALL ≡ 64
  pub marks_per_call : MARKS_PER_CALL ≡ 131072
  pub recovery_acts_per_word : RECOVERY_ACTS_PER_WORD ≡ 4
  pub marks_per_power_on : MARKS_PER_POWER_ON ≡ 8
  pub find_reads_per_record : FIND_READS_PER_RECORD ≡ 9
  pub find_reads_besides : FIND_READS_BESIDES ≡ 12
  pub descend_reads_per_record : DESCEND_READS_PER_RECORD ≡ 9
  pub descend_reads_besides : DESCEND_READS_BESIDES ≡ 4
  pub descend_reads_at_root : DESCEND_READS_AT_ROOT ≡ 3

-- the swaps of each operation
pub record SwapNumbers : Type 0 where
  pub insert_swaps : INSERT_SWAPS ≡ 2
  pub update_swaps : UPDATE_SWAPS ≡ 2
  pub delete_swaps : DELETE_SWAPS ≡ 1
  pub freeze_swaps : FREEZE_SWAPS ≡ 1
  pub renewal_swaps : RENEWAL_SWAPS ≡ 1
  pub merge_swaps : MERGE_SWAPS ≡ 3

-- all of them
pub record NumbersOfFormat : Type 0 where
  pub map : MapNumbers
  pub node : NodeNumbers
  pub tree : TreeNumbers
  pub supply : SupplyNumbers
  pub swaps : SwapNumbers
