-- What the swaps lead to by which a record is replaced or taken out.
use Rattle.std.specs.Prelude.{◌≡◌, ℕ, false, true, List, [], ◌∷◌, All, Some, None}
use Rattle.bz_word.specs.Statuses.{status}
use Rattle.bz_word.specs.declared.meta.Extent.{Extent}
use Rattle.bz_word.specs.declared.meta.Meta.TheVariants.{Deleted}
use Rattle.bz_task.specs.Instant.{Instant}
use Rattle.bz_task.specs.Outcomes.{IsKeyView}
use Rattle.bz_task.specs.Requests.{IsEntryToAsk}
use Rattle.bz_task.specs.Scene.{Past, Scene, IsScene, Continues, here}
use Rattle.bz_task.specs.Swaps.{Change, Stand, SwapsTo, IsGoodSwap, Takes}
use Rattle.bz_task.specs.declared.view.Found.{Found}
use Rattle.bz_task.specs.declared.view.KeyView.{KeyView}
use Rattle.bz_record.specs.Finding.{record_of}
use Rattle.bz_record.specs.Laws.{IsRewrite}
use Rattle.bz_record.specs.Leaves.{WasLeafThen}
use Rattle.bz_record.specs.Records.{Fits}
use Rattle.bz_record.specs.Replacing.{growth, replacement, removal, WasRecord, WasGrown}
use Rattle.bz_record.specs.Swaps.{entries_of}
use Rattle.bz_record.specs.Writing.{IsWritingRecord, HasWritten}
use Rattle.bz_record.specs.declared.new_record.NewRecord.{NewRecord}

-- what was so, was so
pub record RecordsWere : Type 0 where
  pub found : (key payload : List ℕ) (k st place : ℕ) (e : Extent) (p q : Past) → WasRecord key payload k st place e p → Continues p q → WasRecord key payload k st place e q
  pub grown : (r : NewRecord) (old : List ℕ) (place : ℕ) (e : Extent) (p q : Past) → WasGrown r old place e p → Continues p q → WasGrown r old place e q

-- the change of a delete, and of an update
abbrev pub deletes : List ℕ → List ℕ → Change
deletes key payload = record { key = key; old = Some payload; new = None }

abbrev pub updates : NewRecord → List ℕ → Change
updates r old = record { key = r.key; old = Some old; new = Some r.payload }

-- where both are the ones that were read, a removal says a record that is deleted
abbrev pub RemovalsRewrite : Type 0
RemovalsRewrite =
    (s : Scene) (key payload : List ℕ) (k st place : ℕ) (e : Extent) → IsScene s → WasRecord key payload k st place e s.past → (status st).frozen ≡ false →
    Stand (entries_of s.past.config (removal k st place e)) (here s) → IsRewrite (removal k st place e) (Deleted e.key e.total) (deletes key payload) s

-- where status and metadata word are the ones that were read, a removal is lawful for everybody and deletes the key
abbrev pub RemovalsAreGood : Type 0
RemovalsAreGood =
    (s : Scene) (y : Instant) (key payload : List ℕ) (k st place : ℕ) (e : Extent) → IsScene s → WasRecord key payload k st place e s.past → (status st).frozen ≡ false →
    Stand (entries_of s.past.config (removal k st place e)) (here s) → SwapsTo s.past.config (entries_of s.past.config (removal k st place e)) (here s) y →
    IsGoodSwap true (deletes key payload) (entries_of s.past.config (removal k st place e)) s y

-- the first swap of an update is lawful for everybody and changes no content
abbrev pub GrowthsAreGood : Type 0
GrowthsAreGood =
    (s : Scene) (y : Instant) (r : NewRecord) (moment : ℕ) (change : Change) → IsScene s → Fits r → WasLeafThen r.slot r.status moment s.past →
    Stand (growth s.past.config r ∷ []) (here s) → SwapsTo s.past.config (growth s.past.config r ∷ []) (here s) y →
    IsGoodSwap false change (growth s.past.config r ∷ []) s y

-- afterwards the record's words are the worker's own, and the old record stands as it stood
pub record IsGrown (r : NewRecord) (old : List ℕ) (place : ℕ) (e : Extent) (after : Scene) : Type 0 where
  pub grown : WasGrown r old place e after.past
  pub words : IsWritingRecord r 0 0 after

abbrev pub GrowthsTakeWords : Type 0
GrowthsTakeWords =
    (s after : Scene) (r : NewRecord) (old : List ℕ) (place : ℕ) (e : Extent) → IsScene s → IsScene after → Fits r → WasRecord r.key old r.slot r.status place e s.past →
    Stand (growth s.past.config r ∷ []) (here s) → Takes false (growth s.past.config r ∷ []) s after →
    IsGrown r old place e after

-- where both words are the ones that are expected, the second swap of an update is lawful for everybody and updates the key
abbrev pub ReplacementsAreGood : Type 0
ReplacementsAreGood =
    (s : Scene) (y : Instant) (r : NewRecord) (old : List ℕ) (place : ℕ) (e : Extent) → IsScene s → Fits r → WasGrown r old place e s.past → HasWritten r s →
    Stand (entries_of s.past.config (replacement r place e)) (here s) → SwapsTo s.past.config (entries_of s.past.config (replacement r place e)) (here s) y →
    IsGoodSwap true (updates r old) (entries_of s.past.config (replacement r place e)) s y

-- these swaps may be asked for
pub record ChangesMayBeAsked : Type 0 where
  pub removes : (s : Scene) (key payload : List ℕ) (k st place : ℕ) (e : Extent) → IsScene s → WasRecord key payload k st place e s.past → All (IsEntryToAsk s) (entries_of s.past.config (removal k st place e))
  pub grows : (s : Scene) (r : NewRecord) (moment : ℕ) → IsScene s → Fits r → WasLeafThen r.slot r.status moment s.past → All (IsEntryToAsk s) (growth s.past.config r ∷ [])
  pub replaces : (s : Scene) (r : NewRecord) (old : List ℕ) (place : ℕ) (e : Extent) → IsScene s → Fits r → WasGrown r old place e s.past → All (IsEntryToAsk s) (entries_of s.past.config (replacement r place e))

-- the record that was found of a key is one of the key's leaf
abbrev pub KeyViewsShowRecords : Type 0
KeyViewsShowRecords =
    (key : List ℕ) (view : KeyView) (found : Found) (s : Scene) → IsScene s → IsKeyView key view s.past → view.found ≡ Some found →
    WasRecord key found.payload view.slot view.status (record_of found).place (record_of found).extent s.past
