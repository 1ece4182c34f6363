use Rattle.std.proofs.Common.{refl}
use Rattle.bz_layout.proofs.room_laws.numbers_of_format.Goals as goal

pub returns : goal.returns
returns c = record {
  map = record {
    line_words = refl;
    bytes_in_word = refl;
    superblock_words = refl;
    format_at = refl;
    root_at = refl;
    root_status_at = refl;
    nodes_at = refl;
    swaps_at = refl;
    superblock_used = refl;
    format = refl;
    first_root = refl;
    swap_words = refl;
    swap_status_at = refl;
    swap_count_at = refl;
    entries_at = refl;
    entry_words = refl;
    max_entries = refl;
  };
  node = record {
    node_words = refl;
    node_lines = refl;
    status_at = refl;
    header_at = refl;
    low_fence_at = refl;
    high_fence_at = refl;
    fence_words = refl;
    meta_at = refl;
    shared_words = refl;
  };
  tree = record {
    payload_words = refl;
    leaf_record_words = refl;
    record_words = refl;
    record_lines = refl;
    inner_record_words = refl;
    least_record_words = refl;
    max_pairs = refl;
    split_above = refl;
    merge_below = refl;
    inner_limit = refl;
    max_levels = refl;
    consolidation_slots = refl;
    merge_slots = refl;
    split_slots = refl;
  };
  supply = record {
    slots_per_call = refl;
    swaps_per_call = refl;
    marks_per_call = refl;
    recovery_acts_per_word = refl;
    marks_per_power_on = refl;
    find_reads_per_record = refl;
    find_reads_besides = refl;
    descend_reads_per_record = refl;
    descend_reads_besides = refl;
    descend_reads_at_root = refl;
  };
  swaps = record {
    insert_swaps = refl;
    update_swaps = refl;
    delete_swaps = refl;
    freeze_swaps = refl;
    renewal_swaps = refl;
    merge_swaps = refl;
  };
}
