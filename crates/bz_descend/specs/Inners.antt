-- What a descent has read of an inner node. Separators and children's places never change, so what it has read of them is as
-- it was when the status was read.
use Rattle.std.specs.Prelude.{◌≡◌, ◌≢◌, ℕ, ◌+◌, ◌-◌, ◌/◌, ◌<◌, ◌≤◌, false, List, IsSome}
use Rattle.bz_key.specs.Packing.{unpacked_key}
use Rattle.bz_layout.specs.declared.sizes.TheConstants.{STATUS_AT, SHARED_WORDS}
use Rattle.bz_layout.specs.declared.thresholds.TheConstants.{LEAST_RECORD_WORDS}
use Rattle.bz_tree.specs.Order.{is_before}
use Rattle.bz_slotted.specs.Page.{extent_of, page}
use Rattle.bz_slotted.specs.Readers.{key_of}
use Rattle.bz_slotted.specs.Records.{key_words, pointer_at}
use Rattle.bz_slotted.specs.Whole.{Disjoint, IsInBlock, IsInnerRecord}
use Rattle.bz_word.specs.Statuses.{status}
use Rattle.bz_task.specs.Instant.{words}
use Rattle.bz_task.specs.Scene.{Past}
use Rattle.bz_task.specs.declared.path.Path.{Path}
use Rattle.bz_descend.specs.Ways.{Chooses, ArrivesAtInner}
use Rattle.bz_descend.specs.declared.sight.Probe.{Probe}

-- the most records of an inner node: the first is a pointer alone, and each other one has a key of a word at least
abbrev pub most_records : ℕ
most_records = 1 + (SHARED_WORDS - LEAST_RECORD_WORDS) / (LEAST_RECORD_WORDS + 1)

-- what holds of the words of an inner node, whatever became of its status
pub record IsInner (n : ℕ → ℕ) : Type 0 where
  pub some : 0 < (page n).count
  pub few : (page n).count ≤ most_records
  pub room : (page n).count + (page n).block ≤ SHARED_WORDS
  pub lengths : (j : ℕ) → j < (page n).count → IsInnerRecord j ((page n).meta j)
  pub inside : (j : ℕ) → j < (page n).count → IsInBlock (page n) ((page n).meta j)
  pub apart : (i j : ℕ) → i < (page n).count → j < (page n).count → i ≢ j → Disjoint ((page n).meta i) ((page n).meta j)
  pub key : (j : ℕ) → 0 < j → j < (page n).count → IsSome (unpacked_key (extent_of ((page n).meta j)).key (key_words n (extent_of ((page n).meta j))))

-- the status of the node was read, and was not frozen
pub record Opened (key : List ℕ) (path : Path) (k st : ℕ) (p : Past) : Type 0 where
  pub at_inner : ArrivesAtInner key path k p
  pub guarded : ℕ
  pub order : at_inner.node.met ≤ guarded
  pub until : guarded ≤ p.now
  pub value : words p.config (p.at guarded) k STATUS_AT ≡ st
  pub thawed : (status st).frozen ≡ false
  pub inner : IsInner (words p.config (p.at guarded) k)

-- the key is not before that of a record, and here its pointer stands
pub record HasPassed (key : List ℕ) (n : ℕ → ℕ) (j pointer : ℕ) : Type 0 where
  pub counted : j < (page n).count
  pub from : 0 < j → is_before key (key_of n j) ≡ false
  pub place : pointer ≡ pointer_at (page n) j

-- the child of the key has been found
pub record HasChosen (key : List ℕ) (path : Path) (r : Probe) (p : Past) : Type 0 where
  pub opened : Opened key path r.slot r.status p
  pub child : ℕ
  pub chooses : Chooses key (words p.config (p.at opened.guarded) r.slot) child
  pub place : r.pointer ≡ pointer_at (page (words p.config (p.at opened.guarded) r.slot)) child
