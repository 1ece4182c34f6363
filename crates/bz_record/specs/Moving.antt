-- The swap by which a record moves: that of one key goes, and a new one, which has its place in a leaf, becomes visible there with
-- the payload of the old one. It is a removal and a publication at once.
use Rattle.std.specs.Prelude.{◌≡◌, ◌≢◌, ℕ, ◌+◌, ◌⊎◌, false, List, [], ◌∷◌, ◌++◌, All}
use Rattle.bz_layout.specs.Addresses.{node_address}
use Rattle.bz_layout.specs.declared.config.Config.{Config}
use Rattle.bz_layout.specs.declared.sizes.TheConstants.{STATUS_AT}
use Rattle.bz_slotted.specs.FromNode.Reading.{extent_words}
use Rattle.bz_word.specs.Statuses.{status}
use Rattle.bz_word.specs.declared.entry.Entry.{Entry}
use Rattle.bz_word.specs.declared.meta.Extent.{Extent}
use Rattle.bz_task.specs.Instant.{Instant}
use Rattle.bz_task.specs.PairSwaps.{IsGoodForAll}
use Rattle.bz_task.specs.Requests.{IsEntryToAsk}
use Rattle.bz_task.specs.Scene.{Scene, IsScene, here}
use Rattle.bz_task.specs.Swaps.{Change, Stand, SwapsTo}
use Rattle.bz_record.specs.Laws.{inserts}
use Rattle.bz_record.specs.Leaves.{WasReserved}
use Rattle.bz_record.specs.Records.{Fits}
use Rattle.bz_record.specs.Replacing.{removal, WasRecord}
use Rattle.bz_record.specs.ReplacingLaws.{deletes}
use Rattle.bz_record.specs.Swaps.{meta_entry, entries_of, counted_status, status_reserved, publication}
use Rattle.bz_record.specs.Writing.{HasWritten}
use Rattle.bz_record.specs.declared.new_record.NewRecord.{NewRecord}

-- both changes: the key goes, and the new record's key gets the payload
abbrev pub moves : NewRecord → List ℕ → List Change
moves r key = deletes key r.payload ∷ inserts r ∷ []

-- in two leaves: status and metadata word of each, in the order of the targets
abbrev pub IsCrossing : Config → NewRecord → (k st place : ℕ) → Extent → List Entry → Type 0
IsCrossing c r k st place e entries =
    (entries ≡ entries_of c (removal k st place e) ++ entries_of c (publication r)) ⊎ (entries ≡ entries_of c (publication r) ++ entries_of c (removal k st place e))

-- in one leaf: its status once the new record's words are live and those of the old one dead, and both metadata words
abbrev pub status_moved : NewRecord → Extent → ℕ
status_moved r e = counted_status (status_reserved r) ((status r.status).dead + extent_words e)

abbrev pub moving : Config → NewRecord → ℕ → Extent → List Entry
moving c r place e =
    record { target = node_address c r.slot + STATUS_AT; expected = status_reserved r; new = status_moved r e }
    ∷ meta_entry c (removal r.slot (status_reserved r) place e) ∷ meta_entry c (publication r) ∷ []

-- the swap is lawful for everybody, and makes both changes, which are of two keys
pub record IsGoodMove (r : NewRecord) (key : List ℕ) (entries : List Entry) (s : Scene) (y : Instant) : Type 0 where
  pub good : IsGoodForAll (moves r key) entries s y
  pub differ : key ≢ r.key

pub record MovesAreGood : Type 0 where
  -- from one leaf to another, where all four words are the ones that are expected
  pub across : (s : Scene) (y : Instant) (r : NewRecord) (key : List ℕ) (k st place : ℕ) (e : Extent) (entries : List Entry) → IsScene s → Fits r → WasReserved r s.past → HasWritten r s →
      WasRecord key r.payload k st place e s.past → (status st).frozen ≡ false → k ≢ r.slot → IsCrossing s.past.config r k st place e entries →
      Stand entries (here s) → SwapsTo s.past.config entries (here s) y → IsGoodMove r key entries s y
  -- within a leaf, where the old record was seen when the new one had its place, and all three words are the ones that are expected
  pub within : (s : Scene) (y : Instant) (r : NewRecord) (key : List ℕ) (place : ℕ) (e : Extent) → IsScene s → Fits r → WasReserved r s.past → HasWritten r s →
      WasRecord key r.payload r.slot (status_reserved r) place e s.past →
      Stand (moving s.past.config r place e) (here s) → SwapsTo s.past.config (moving s.past.config r place e) (here s) y → IsGoodMove r key (moving s.past.config r place e) s y

-- both may be asked for
pub record MovesMayBeAsked : Type 0 where
  pub across : (s : Scene) (r : NewRecord) (key : List ℕ) (k st place : ℕ) (e : Extent) (entries : List Entry) → IsScene s → Fits r → WasReserved r s.past → WasRecord key r.payload k st place e s.past →
      IsCrossing s.past.config r k st place e entries → All (IsEntryToAsk s) entries
  pub within : (s : Scene) (r : NewRecord) (key : List ℕ) (place : ℕ) (e : Extent) → IsScene s → Fits r → WasReserved r s.past → WasRecord key r.payload r.slot (status_reserved r) place e s.past →
      All (IsEntryToAsk s) (moving s.past.config r place e)
