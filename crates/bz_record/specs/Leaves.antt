-- What is known of a leaf that a record is put into.
use Rattle.std.specs.Prelude.{◌≡◌, ℕ, ◌+◌, ◌^◌, ◌<◌, ◌≤◌, true, List, Option, None}
use Rattle.bz_layout.specs.declared.sizes.TheConstants.{STATUS_AT, META_AT}
use Rattle.bz_tree.specs.Order.{is_within}
use Rattle.bz_slotted.specs.Readers.{found_of}
use Rattle.bz_word.specs.Metas.{meta_word}
use Rattle.bz_word.specs.Statuses.{status}
use Rattle.bz_word.specs.declared.meta.Meta.TheVariants.{Reserved}
use Rattle.bz_task.specs.Instant.{words, durable, page_at, form_at, is_inside}
use Rattle.bz_task.specs.Scene.{Past}
use Rattle.bz_record.specs.Records.{place_of}
use Rattle.bz_record.specs.Swaps.{status_reserved}
use Rattle.bz_record.specs.declared.new_record.NewRecord.{NewRecord}

-- the slot was a leaf of the tree with this status at a moment since the look-up began
pub record WasLeafThen (k st moment : ℕ) (p : Past) : Type 0 where
  pub since : p.since ≤ moment
  pub now : moment ≤ p.now
  pub slot : k < p.config.nodes
  pub inside : is_inside p.config (p.at moment) k ≡ true
  pub leaf : (form_at p.config (p.at moment)).level k ≡ 0
  pub was : words p.config (p.at moment) k STATUS_AT ≡ st
  pub plain : st < 2 ^ 61

-- it was the leaf of the key, and said this of it
pub record WasLeafOf (key : List ℕ) (said : Option (List ℕ)) (k st moment : ℕ) (p : Past) : Type 0 where
  pub leaf : WasLeafThen k st moment p
  pub range : is_within key ((form_at p.config (p.at moment)).low k) ((form_at p.config (p.at moment)).high k) ≡ true
  pub found : found_of (durable p.config (p.at moment) k) key ≡ said

-- a swap took effect since the look-up began, up to this moment
abbrev pub HasSwapped : ℕ → Past → Type 0
HasSwapped moment p = (p.at p.since).effects + 1 ≤ (p.at moment).effects

-- at a moment after a swap the leaf of the record's key had no such key, and a metadata word was reserved for the record: the last
-- one, which is not sorted
pub record WasReserved (r : NewRecord) (p : Past) : Type 0 where
  pub moment : ℕ
  pub leaf : WasLeafOf r.key None r.slot (status_reserved r) moment p
  pub meta : words p.config (p.at moment) r.slot (META_AT + (status r.status).count) ≡ meta_word (Reserved (place_of r))
  pub unsorted : (page_at p.config (p.at moment) r.slot).sorted ≤ (status r.status).count
  pub swapped : HasSwapped moment p
