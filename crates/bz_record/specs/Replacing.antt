-- The swaps by which a record of a leaf is replaced or taken out, and what is known of the leaf.
use Rattle.std.specs.Prelude.{◌≡◌, ℕ, ◌+◌, ◌<◌, ◌≤◌, true, List, Some}
use Rattle.bz_layout.specs.Addresses.{node_address}
use Rattle.bz_layout.specs.declared.config.Config.{Config}
use Rattle.bz_layout.specs.declared.sizes.TheConstants.{NODE_WORDS, STATUS_AT, META_AT, SHARED_WORDS}
use Rattle.bz_slotted.specs.FromNode.Reading.{extent_words}
use Rattle.bz_slotted.specs.Page.{held, extent_of, page}
use Rattle.bz_slotted.specs.Records.{key_at}
use Rattle.bz_word.specs.Metas.{meta_word, IsExtent}
use Rattle.bz_word.specs.Statuses.{status, status_word}
use Rattle.bz_word.specs.declared.entry.Entry.{Entry}
use Rattle.bz_word.specs.declared.meta.Extent.{Extent}
use Rattle.bz_word.specs.declared.meta.Meta.TheVariants.{Visible, Deleted}
use Rattle.bz_task.specs.Instant.{words, durable}
use Rattle.bz_task.specs.Scene.{Past}
use Rattle.bz_task.specs.Steps.{next_stamp}
use Rattle.bz_record.specs.Leaves.{WasLeafOf, HasSwapped}
use Rattle.bz_record.specs.Records.{size_of, place_of}
use Rattle.bz_record.specs.Swaps.{counted_status}
use Rattle.bz_record.specs.declared.new_record.NewRecord.{NewRecord}
use Rattle.bz_record.specs.declared.record_swap.RecordSwap.{RecordSwap}

-- the status word with so many words of the block more, which are dead, and the next stamp
abbrev pub grown_status : ℕ → ℕ → ℕ
grown_status st words = status_word (record (status st) { block = (status st).block + words; dead = (status st).dead + words; stamp = next_stamp (status st).stamp })

abbrev pub status_grown : NewRecord → ℕ
status_grown r = grown_status r.status (size_of r)

-- the one entry of the swap that gives the block the record's words: the first swap of an update
abbrev pub growth : Config → NewRecord → Entry
growth c r = record { target = node_address c r.slot + STATUS_AT; expected = r.status; new = status_grown r }

-- the swap that puts the record in the place of one of this extent: the second swap of an update
abbrev pub replacement : NewRecord → ℕ → Extent → RecordSwap
replacement r place e = record {
  slot = r.slot;
  place = place;
  status = status_grown r;
  new_status = counted_status (status_grown r) ((status r.status).dead + extent_words e);
  meta = meta_word (Visible e);
  new_meta = meta_word (Visible (place_of r));
}

-- the swap that takes out a record of this extent: a delete
abbrev pub removal : ℕ → ℕ → ℕ → Extent → RecordSwap
removal k st place e = record {
  slot = k;
  place = place;
  status = st;
  new_status = counted_status st ((status st).dead + extent_words e);
  meta = meta_word (Visible e);
  new_meta = meta_word (Deleted e.key e.total);
}

-- at a moment the leaf of the key had its record, of this extent, at a place
pub record WasRecord (key payload : List ℕ) (k st place : ℕ) (e : Extent) (p : Past) : Type 0 where
  pub moment : ℕ
  pub leaf : WasLeafOf key (Some payload) k st moment p
  pub counted : place < (status st).count
  pub extent : IsExtent e
  pub some : 0 < e.key
  pub small : extent_words e ≤ SHARED_WORDS
  pub dead : (status st).dead ≤ SHARED_WORDS
  pub meta : words p.config (p.at moment) k (META_AT + place) ≡ meta_word (Visible e)
  pub is_key : key_at (page (durable p.config (p.at moment) k)) place ≡ key

-- and after a swap the block had grown by the words of a new record, before all others
pub record WasGrown (r : NewRecord) (old : List ℕ) (place : ℕ) (e : Extent) (p : Past) : Type 0 where
  pub was : WasRecord r.key old r.slot (status_grown r) place e p
  pub older : (i : ℕ) → i < (status r.status).count → held ((page (durable p.config (p.at was.moment) r.slot)).meta i) ≡ true → NODE_WORDS ≤ (extent_of ((page (durable p.config (p.at was.moment) r.slot)).meta i)).offset + (status r.status).block
  pub swapped : HasSwapped was.moment p
