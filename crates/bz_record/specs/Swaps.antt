-- The swaps of a leaf's status and one of its metadata words.
use Rattle.std.specs.Prelude.{ℕ, ◌+◌, List, [], ◌∷◌}
use Rattle.bz_layout.specs.Addresses.{node_address}
use Rattle.bz_layout.specs.declared.config.Config.{Config}
use Rattle.bz_layout.specs.declared.sizes.TheConstants.{STATUS_AT, META_AT}
use Rattle.bz_word.specs.Metas.{meta_word}
use Rattle.bz_word.specs.Statuses.{status, status_word}
use Rattle.bz_word.specs.declared.entry.Entry.{Entry}
use Rattle.bz_word.specs.declared.meta.Meta.TheVariants.{Reserved, Visible}
use Rattle.bz_task.specs.Steps.{next_stamp}
use Rattle.bz_record.specs.Records.{size_of, place_of}
use Rattle.bz_record.specs.declared.new_record.NewRecord.{NewRecord}
use Rattle.bz_record.specs.declared.record_swap.RecordSwap.{RecordSwap}

-- the entry of the status, and that of the metadata word
abbrev pub status_entry : Config → RecordSwap → Entry
status_entry c w = record { target = node_address c w.slot + STATUS_AT; expected = w.status; new = w.new_status }

abbrev pub meta_entry : Config → RecordSwap → Entry
meta_entry c w = record { target = node_address c w.slot + (META_AT + w.place); expected = w.meta; new = w.new_meta }

-- both, in the order of their targets
abbrev pub entries_of : Config → RecordSwap → List Entry
entries_of c w = status_entry c w ∷ meta_entry c w ∷ []

-- the status word with one record more and so many words of the block more, which are dead, and the next stamp
abbrev pub reserved_status : ℕ → ℕ → ℕ
reserved_status st words = status_word (record (status st) {
  count = (status st).count + 1;
  block = (status st).block + words;
  dead = (status st).dead + words;
  stamp = next_stamp (status st).stamp;
})

-- the status word with so many dead words, and the next stamp
abbrev pub counted_status : ℕ → ℕ → ℕ
counted_status st words = status_word (record (status st) { dead = words; stamp = next_stamp (status st).stamp })

-- the status once a place is reserved for the record, and once the record is visible there
abbrev pub status_reserved : NewRecord → ℕ
status_reserved r = reserved_status r.status (size_of r)

abbrev pub status_published : NewRecord → ℕ
status_published r = counted_status (status_reserved r) (status r.status).dead

-- the swap that reserves the next metadata word for the record, and the next words of the block
abbrev pub reservation : NewRecord → RecordSwap
reservation r = record {
  slot = r.slot;
  place = (status r.status).count;
  status = r.status;
  new_status = status_reserved r;
  meta = 0;
  new_meta = meta_word (Reserved (place_of r));
}

-- the swap that makes it visible, directly after it
abbrev pub publication : NewRecord → RecordSwap
publication r = record {
  slot = r.slot;
  place = (status r.status).count;
  status = status_reserved r;
  new_status = status_published r;
  meta = meta_word (Reserved (place_of r));
  new_meta = meta_word (Visible (place_of r));
}
