-- The sizes that the machine speaks of, which knows no layout, are those of the layout.
use Rattle.std.specs.Prelude.{◌≡◌, ◌+◌, ◌-◌, ◌*◌}
use Rattle.bz_layout.specs.declared.limits.TheConstants.{MAX_WORKERS}
use Rattle.bz_layout.specs.declared.sizes.TheConstants.{SWAP_WORDS, SWAP_COUNT_AT, ENTRIES_AT, ENTRY_WORDS, MAX_ENTRIES}
use Rattle.bz_swap_machine.specs.Sizes.{most_entries, descriptor_words, most_workers}
use Rattle.bz_swap_cells.specs.Store.{field_count}

pub record SizesAreOfLayout : Type 0 where
  -- a swap has as many entries as a descriptor has room for
  pub entries : most_entries ≡ MAX_ENTRIES
  -- its words are the count and those of the entries, which follow the status
  pub words : SWAP_COUNT_AT + descriptor_words ≡ ENTRIES_AT + ENTRY_WORDS * MAX_ENTRIES
  -- a descriptor has no words but the status and these, which it has room for
  pub fields : field_count ≡ SWAP_WORDS - 1
  -- the workers of a world, and the one that recovers
  pub workers : most_workers ≡ MAX_WORKERS + 1
