-- How the words of a record are stored and become durable, once they are the worker's own.
use Rattle.std.specs.Prelude.{◌≡◌, ℕ, ◌+◌, ◌-◌, ◌*◌, ◌<◌, ◌≤◌, slice_index}
use Rattle.bz_layout.specs.Addresses.{line_of}
use Rattle.bz_layout.specs.Slots.{FreeSlots}
use Rattle.bz_layout.specs.declared.config.Config.{Config}
use Rattle.bz_layout.specs.declared.sizes.TheConstants.{LINE_WORDS}
use Rattle.bz_task.specs.OwnActs.{Stores, Flushes, gained}
use Rattle.bz_task.specs.Requests.{IsReadable, IsOwnStore}
use Rattle.bz_task.specs.Scene.{Scene, IsMine, IsFlushed, IsScene, IsLawful, here}
use Rattle.bz_record.specs.Records.{words_in, size_of, address_of, Fits}
use Rattle.bz_record.specs.declared.new_record.NewRecord.{NewRecord}

-- the line of the record's word i
abbrev pub line_in : Config → NewRecord → ℕ → ℕ
line_in c r i = line_of (address_of c r i)

-- the first and the last line of the record
abbrev pub first_line : Config → NewRecord → ℕ
first_line c r = line_in c r 0

abbrev pub last_line : Config → NewRecord → ℕ
last_line c r = line_in c r (size_of r - 1)

-- the record's words are the worker's own; the first so many are stored, and those in the first so many lines are durable
pub record IsWritingRecord (r : NewRecord) (words lines : ℕ) (s : Scene) : Type 0 where
  pub mine : (i : ℕ) → i < size_of r → IsMine s (address_of s.past.config r i)
  pub stored : (i : ℕ) → i < size_of r → i < words → (here s).value (address_of s.past.config r i) ≡ slice_index (words_in r) i
  pub flushed : (i : ℕ) → i < size_of r → line_in s.past.config r i < first_line s.past.config r + lines → IsFlushed s (address_of s.past.config r i)

-- all of them are stored and durable
pub record HasWritten (r : NewRecord) (s : Scene) : Type 0 where
  pub mine : (i : ℕ) → i < size_of r → IsMine s (address_of s.past.config r i)
  pub stored : (i : ℕ) → i < size_of r → (here s).value (address_of s.past.config r i) ≡ slice_index (words_in r) i
  pub flushed : (i : ℕ) → i < size_of r → IsFlushed s (address_of s.past.config r i)

pub record RecordsAreWritten : Type 0 where
  -- what is written stays
  pub stays : (r : NewRecord) (words lines : ℕ) (s after : Scene) → IsWritingRecord r words lines s → IsLawful s after → IsWritingRecord r words lines after
  pub written_stays : (r : NewRecord) (s after : Scene) → HasWritten r s → IsLawful s after → HasWritten r after
  -- also where no slot is taken
  pub no_slot : (r : NewRecord) (words lines : ℕ) (s : Scene) (free : FreeSlots) → IsWritingRecord r words lines s → IsWritingRecord r words lines (gained s free free)
  pub written_no_slot : (r : NewRecord) (s : Scene) (free : FreeSlots) → HasWritten r s → HasWritten r (gained s free free)
  -- a store of the next word, and a flush of the next line
  pub stores : (r : NewRecord) (i : ℕ) (s after : Scene) → i < size_of r → IsWritingRecord r i 0 s → Stores (address_of s.past.config r i) (slice_index (words_in r) i) s after → IsWritingRecord r (i + 1) 0 after
  pub flushes : (r : NewRecord) (line : ℕ) (s after : Scene) → IsWritingRecord r (size_of r) line s → Flushes (first_line s.past.config r + line) s after → IsWritingRecord r (size_of r) (line + 1) after
  -- both may be asked for
  pub may_store : (r : NewRecord) (i words lines : ℕ) (s : Scene) → Fits r → i < size_of r → IsWritingRecord r words lines s → IsOwnStore s (address_of s.past.config r i) (slice_index (words_in r) i)
  pub may_flush : (r : NewRecord) (line : ℕ) (s : Scene) → IsScene s → Fits r → r.slot < s.past.config.nodes → first_line s.past.config r + line ≤ last_line s.past.config r → IsReadable s (LINE_WORDS * (first_line s.past.config r + line))
